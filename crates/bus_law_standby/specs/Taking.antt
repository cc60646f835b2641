-- One station takes control by itself, on a bus on which nobody holds it (the project's own).
use Rattle.std.specs.Prelude.{◌≡◌, ◌≢◌, ℕ, suc, ◌<◌, false, List, [], ◌∷◌, None}
use Rattle.bus_formats.specs.Plans.{StationData}
use Rattle.bus_model.specs.Control.{OutsideTake, outside_takes}
use Rattle.bus_model.specs.Course.{quiet_from}
use Rattle.bus_model.specs.Message.{Present}
use Rattle.bus_model.specs.Run.{Run, with_station}
use Rattle.bus_model.specs.Starts.{starts}
use Rattle.bus_law_phases.specs.Scenarios.{Scenario, IsPresentAt, trace_at, shown_at}
use Rattle.bus_law_run.specs.RunShows.{RunShows}
use Rattle.bus_law_whole.specs.Leaving.{left_by, RestsUncontrolled}

-- with tick t the station at this place takes control, its first command to start in tick first; no other one that is present takes it then
pub record TakesAlone (w : Scenario) (t place : ℕ) (station : StationData) (first : ℕ) : Type 0 where
  pub at : IsPresentAt w place station
  pub takes : outside_takes w.lag station (starts w.plan station) w.loads w.outside t w.outside ≡ record { heard = suc t; first = first } ∷ []
  pub others : (other : ℕ) (o : StationData) → IsPresentAt w other o → other ≢ place →
      outside_takes w.lag o (starts w.plan o) w.loads w.outside t w.outside ≡ []

-- the stations of the table where the one with this address holds control
abbrev pub controlled_by : ℕ → List Present → List Present
controlled_by address stations = with_station address (λ station. record station { serves = false }) stations

-- the same bus, but that control is taken so from outside
abbrev pub taken_so : Scenario → List OutsideTake → Scenario
taken_so w outside = record w { outside = outside }

-- in the first n ticks control is taken alike from outside on both
abbrev pub TakenAlike : Scenario → List OutsideTake → ℕ → Type 0
TakenAlike w outside n =
    (station : StationData) (tick : ℕ) → tick < n →
    outside_takes w.lag station (starts w.plan station) w.loads w.outside tick w.outside
    ≡ outside_takes w.lag station (starts w.plan station) w.loads outside tick outside

-- the world of the first t ticks has come as far as a run, but nobody holds control: both channels have been quiet since the run's tick, no abandoned answer
-- runs on, and with one quiet tick more what was found is the run's
pub record StandsUncontrolled (w : Scenario) (t : ℕ) (run : Run) : Type 0 where
  pub moment : RestsUncontrolled w (trace_at w t) run.stations
  pub quiet : quiet_from (shown_at w t) ≡ run.quiet_from
  pub runs_on : run.runs_on ≡ None
  pub shows : RunShows w (suc t) run []

-- a run without the station with this address
abbrev pub run_without : ℕ → Run → Run
run_without address run = record run { stations = left_by address run.stations }
