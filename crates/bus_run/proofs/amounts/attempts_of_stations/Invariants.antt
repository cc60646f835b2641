use Rattle.std.proofs.Common.{◌≡◌, take}
use Rattle.std.specs.Prelude.{sum_by}
use Rattle.bus_run.specs.Amounts.{counted, attempts_of_station}
use Rattle.bus_run.proofs.amounts.attempts_of_stations.Given as goal

abbrev pub invariant-loop-station : goal.invariant-loop-station
invariant-loop-station l = l.amount ≡ counted (sum_by attempts_of_station (take l.station-index l.stations))
