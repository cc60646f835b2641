use Rattle.std.proofs.Common.{◌≡◌, ℕ, [], length}
use Rattle.std.specs.Prelude.{slice_get, Some}
use Rattle.bus_line.specs.declared.cutter.TheConstants.{LAG}
use Rattle.bus_formats.specs.Plans.{StationData, PlanData}
use Rattle.bus_model.specs.Starts.{starts}
use Rattle.bus_station.specs.StationStands.{StationStands}
use Rattle.bus_station.specs.declared.station.Station.{Station}
use Rattle.bus_run.proofs.prepare.made_of.Given as goal

-- the stations before the index are made
abbrev pub invariant-loop-station : goal.invariant-loop-station
invariant-loop-station l = record {
  all : length l.made.items ≡ l.station-index;
  each : (plan : PlanData) (i : ℕ) (s : StationData) (value : Station) → plan.start ≡ l.start → slice_get l.stations i ≡ Some s →
      slice_get l.made.items i ≡ Some value →
      StationStands LAG s (starts plan s) [] [] value [];
}
