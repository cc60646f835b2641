use Rattle.std.proofs.Common.{◌≡◌, min, take}
use Rattle.bus_plan.specs.Limits.{of_stations}
use Rattle.bus_plan.proofs.limits.of_stations.Given as goal

abbrev pub invariant-loop-station : goal.invariant-loop-station
invariant-loop-station l = l.amount ≡ min 0x8000_0000 (of_stations l.measure (take l.station-index l.stations))
