use Rattle.std.proofs.Common.{◌≡◌, ◌+◌, drop}
use Rattle.bus_plan.specs.ItemRules.{in_frames}
use Rattle.bus_plan.proofs.item_rules.in_frames.Given as goal

abbrev pub invariant-loop-i : goal.invariant-loop-i
invariant-loop-i l = in_frames l.rule l.all l.own l.path (l.i + 1) (drop l.i l.frames) ≡ in_frames l.rule l.all l.own l.path 1 l.frames
