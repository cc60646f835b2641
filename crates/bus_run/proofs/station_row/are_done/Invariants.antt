use Rattle.std.proofs.Common.{◌≡◌, List, drop}
use Rattle.std.specs.List.{list_all}
use Rattle.bus_base.specs.declared.samples.Pair.{Pair}
use Rattle.bus_line.specs.declared.cutter.TheConstants.{LAG}
use Rattle.bus_model.specs.World.{is_done}
use Rattle.bus_run.specs.Parts.{StationsStandIn, presence}
use Rattle.bus_run.specs.Settings.{Setting}
use Rattle.bus_run.proofs.station_row.are_done.Given as goal

-- the stations before the place are done
abbrev pub invariant-loop-place : goal.invariant-loop-place
invariant-loop-place l = (w : Setting) (past : List Pair) → StationsStandIn w l.stations past → l.present ≡ presence w →
    list_all (is_done LAG w.plan w.loads w.outside w.absent past) w.plan.stations
    ≡ list_all (is_done LAG w.plan w.loads w.outside w.absent past) (drop l.place w.plan.stations)
