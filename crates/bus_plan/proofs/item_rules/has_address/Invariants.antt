use Rattle.std.proofs.Common.{◌≡◌, drop}
use Rattle.bus_plan.specs.ItemRules.{has_address}
use Rattle.bus_plan.proofs.item_rules.has_address.Given as goal

abbrev pub invariant-loop-station : goal.invariant-loop-station
invariant-loop-station l = has_address l.address (drop l.station-index l.stations) ≡ has_address l.address l.stations
