use Rattle.std.proofs.Common.{◌≡◌, drop}
use Rattle.std.specs.List.{list_any}
use Rattle.bus_report.specs.Report.{names_subsystem}
use Rattle.bus_report.proofs.whole.has_subsystem.Given as goal

-- the answer is that of the stations from the index on
abbrev pub invariant-loop-station : goal.invariant-loop-station
invariant-loop-station l =
    list_any (names_subsystem l.address) l.stations ≡ list_any (names_subsystem l.address) (drop l.station-index l.stations)
