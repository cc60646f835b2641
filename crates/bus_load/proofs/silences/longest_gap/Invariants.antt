use Rattle.std.proofs.Common.{◌≡◌, ◌≤◌, drop}
use Rattle.std.specs.Prelude.{max}
use Rattle.bus_load.specs.Silence.{longest_gap}
use Rattle.bus_load.proofs.silences.longest_gap.Given as goal

abbrev pub invariant-loop-item : goal.invariant-loop-item
invariant-loop-item l = (max l.longest (longest_gap (drop l.item-index l.items)) ≡ longest_gap l.items) × (l.longest ≤ 65535)
