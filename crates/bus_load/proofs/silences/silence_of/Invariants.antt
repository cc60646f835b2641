use Rattle.std.proofs.Common.{◌≡◌, drop}
use Rattle.std.specs.Prelude.{find, ◌==◌}
use Rattle.bus_load.proofs.silences.silence_of.Given as goal

abbrev pub invariant-loop-station : goal.invariant-loop-station
invariant-loop-station l =
    find (λ s. s.terminal.address == l.plan.start) (drop l.station-index l.plan.stations) ≡ find (λ s. s.terminal.address == l.plan.start) l.plan.stations
