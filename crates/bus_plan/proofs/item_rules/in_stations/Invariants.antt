use Rattle.std.proofs.Common.{◌≡◌, ◌+◌, drop}
use Rattle.bus_plan.specs.ItemRules.{in_stations}
use Rattle.bus_plan.proofs.item_rules.in_stations.Given as goal

abbrev pub invariant-loop-i : goal.invariant-loop-i
invariant-loop-i l = in_stations l.rule l.stations (l.i + 1) (drop l.i l.stations) ≡ in_stations l.rule l.stations 1 l.stations
