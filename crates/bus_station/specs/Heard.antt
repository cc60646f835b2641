-- How many ticks a station has heard.
use Rattle.std.specs.Prelude.{◌≡◌, ℕ, Bool, List, length}
use Rattle.bus_base.specs.declared.samples.Pair.{Pair}
use Rattle.bus_line.specs.declared.cutter.TheConstants.{LAG}
use Rattle.bus_formats.specs.Plans.{StationData}
use Rattle.bus_model.specs.Memory.{TimedLoad}
use Rattle.bus_model.specs.Control.{OutsideTake}
use Rattle.bus_station.specs.StationStands.{StationStands}
use Rattle.bus_station.specs.declared.station.Station.{Station}

-- it stands for some past of so many ticks
abbrev pub HasHeard : Station → ℕ → Type 0
HasHeard value ticks =
    (plan : StationData) × (starts : Bool) × (loads : List TimedLoad) × (outside : List OutsideTake) × (past : List Pair)
    × StationStands LAG plan starts loads outside value past × (length past ≡ ticks)
