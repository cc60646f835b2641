use Rattle.std.proofs.Common.{◌≡◌, drop}
use Rattle.bus_plan.specs.ItemRules.{same_address}
use Rattle.bus_plan.proofs.item_rules.same_address.Given as goal

abbrev pub invariant-loop-i : goal.invariant-loop-i
invariant-loop-i l = same_address l.stations l.i (drop l.i l.stations) ≡ same_address l.stations 0 l.stations
