use Rattle.std.proofs.Common.{◌≡◌, ◌==◌, drop}
use Rattle.std.specs.List.{list_any}
use Rattle.bus_bridge.proofs.inputs.has_station.Given as goal

abbrev pub invariant-loop-station : goal.invariant-loop-station
invariant-loop-station l =
    list_any (λ s. s.terminal.address == l.address) (drop l.station-index l.plan.stations) ≡ list_any (λ s. s.terminal.address == l.address) l.plan.stations
