use Rattle.std.proofs.Common.{◌≡◌, ◌+◌, drop}
use Rattle.bus_plan.specs.ItemRules.{in_items}
use Rattle.bus_plan.proofs.item_rules.in_items.Given as goal

abbrev pub invariant-loop-i : goal.invariant-loop-i
invariant-loop-i l = in_items l.rule l.all l.own l.path (l.i + 1) (drop l.i l.items) ≡ in_items l.rule l.all l.own l.path 1 l.items
