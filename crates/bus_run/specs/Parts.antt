-- For which ticks of a world the parts of a bus stand: what the channels showed, and what was driven, the newest tick first.
use Rattle.std.specs.Prelude.{◌≡◌, ℕ, ◌≤◌, Bool, true, List, [], length, map, slice_get, Some}
use Rattle.bus_base.specs.declared.samples.Drive.{Drive}
use Rattle.bus_base.specs.declared.samples.Pair.{Pair}
use Rattle.bus_line.specs.declared.cutter.TheConstants.{LAG}
use Rattle.bus_formats.specs.Plans.{StationData, PlanData}
use Rattle.bus_model.specs.Starts.{starts}
use Rattle.bus_model.specs.World.{clashes, is_present}
use Rattle.bus_station.specs.StationStands.{StationStands, StationKeeps}
use Rattle.bus_station.specs.declared.station.Station.{Station}
use Rattle.bus_wire.specs.WireStands.{WireStands}
use Rattle.bus_run.specs.Driven.{AreSilentBut}
use Rattle.bus_run.specs.Settings.{Setting, alone}
use Rattle.bus_run.specs.declared.driven_wire.DrivenWire.{DrivenWire}

-- each station that has heard nothing yet stands for its plan
pub record StationsBegin (plan : PlanData) (stations : List Station) : Type 0 where
  pub all : length stations ≡ length plan.stations
  pub each : (i : ℕ) (s : StationData) (value : Station) → slice_get plan.stations i ≡ Some s → slice_get stations i ≡ Some value →
      StationStands LAG s (starts plan s) [] [] value []

-- each station that is present keeps what its plan and what the channels showed leave
pub record StationsStandIn (w : Setting) (stations : List Station) (past : List Pair) : Type 0 where
  pub all : length stations ≡ length w.plan.stations
  pub each : (i : ℕ) (s : StationData) (value : Station) → slice_get w.plan.stations i ≡ Some s → slice_get stations i ≡ Some value →
      is_present w.absent s ≡ true → StationKeeps LAG s (starts w.plan s) w.loads w.outside value past

-- the same on a bus that is joined to nothing, where every station is present
abbrev pub StationsStand : PlanData → List Station → List Pair → Type 0
StationsStand plan stations past = StationsStandIn (alone plan) stations past

-- which stations are present, in the order of the plan
abbrev pub presence : Setting → List Bool
presence w = map (is_present w.absent) w.plan.stations

-- the wire stands for what was driven, with a place for the drive of each station
pub record DrivenWireStands (plan : PlanData) (driven_wire : DrivenWire) (driven : List (List Drive)) : Type 0 where
  pub wire : WireStands plan.faults driven_wire.wire driven
  pub drives : length driven_wire.drives.items ≡ length plan.stations
  pub silent : AreSilentBut [] driven_wire.drives.items
  pub few : length plan.stations ≤ 32
  pub clashes_are : driven_wire.clashes ≡ clashes plan.faults driven
