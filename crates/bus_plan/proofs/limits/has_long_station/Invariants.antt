use Rattle.std.proofs.Common.{◌≡◌, drop, length}
use Rattle.std.specs.Prelude.{nat_lt}
use Rattle.std.specs.List.{list_any}
use Rattle.bus_plan.proofs.limits.has_long_station.Given as goal

abbrev pub invariant-loop-station : goal.invariant-loop-station
invariant-loop-station l = list_any (λ s. nat_lt l.most (length s.frames)) (drop l.station-index l.stations) ≡ list_any (λ s. nat_lt l.most (length s.frames)) l.stations
