use Rattle.std.proofs.Common.{◌≡◌, ◌++◌, map, take, drop}
use Rattle.bus_formats.specs.Plans.{without_subsystem}
use Rattle.bus_formats.proofs.plan.clear_subsystems.Given as goal

-- the stations so far are cleared, and the others as they were
abbrev pub invariant-loop-station : goal.invariant-loop-station
invariant-loop-station l =
    l.stations ≡ map without_subsystem (take l.station-index l.fn.stations) ++ drop l.station-index l.fn.stations
