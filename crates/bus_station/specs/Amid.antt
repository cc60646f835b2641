-- A station that serves, in the midst of a tick: its terminal's ears have heard it.
use Rattle.std.specs.Prelude.{◌≡◌, ℕ, Bool, false, List, ◌∷◌}
use Rattle.bus_base.specs.declared.samples.Pair.{Pair}
use Rattle.bus_formats.specs.Plans.{StationData, TerminalData}
use Rattle.bus_model.specs.Memory.{TimedLoad}
use Rattle.bus_model.specs.Hearing.{Moment, Hearing}
use Rattle.bus_model.specs.Terminal.{standing, accepted_on}
use Rattle.bus_model.specs.Control.{OutsideTake, holds_control, hearing_after, course_after, moment_of}
use Rattle.bus_receiver.specs.declared.cutters.Cutters.{Cutters}
use Rattle.bus_terminal.specs.Hearing.{AfterStep}
use Rattle.bus_terminal.specs.declared.common.BothHeard.{BothHeard}
use Rattle.bus_terminal.specs.declared.state.Step.{Step}
use Rattle.bus_terminal.specs.declared.state.Step.TheVariants as steps
use Rattle.bus_terminal.specs.declared.terminal.Terminal.{Terminal}
use Rattle.bus_station.specs.Listening.{HearsBy}
use Rattle.bus_station.specs.StationStands.{StationKeeps}
use Rattle.bus_station.specs.declared.station.Station.{Station}

-- a terminal heard the tick whole and told nothing of it, or its ears alone heard it
abbrev pub HeardUpTo : ℕ → TerminalData → List TimedLoad → Terminal → Step → Hearing → Moment → Type 0
HeardUpTo k t loads terminal step hearing now =
    AfterStep k t loads terminal.state step hearing.ticks now (standing k t loads hearing.memory hearing.ticks)
    (accepted_on k t loads now hearing.ticks (standing k t loads hearing.memory hearing.ticks))

-- a station that was another before the tick, which its terminal's ears alone have heard
pub record IsAmid (k : ℕ) (station : StationData) (starts : Bool) (loads : List TimedLoad) (outside : List OutsideTake) (own : Bool) (was value : Station)
    (both : BothHeard) (bus : Cutters) (shown : Pair) (past : List Pair) : Type 0 where
  pub kept : StationKeeps k station starts loads outside was past
  pub off : holds_control k station starts loads outside past ≡ false
  pub heard : HeardUpTo k station.terminal loads value.terminal (steps.Changes both) (hearing_after k station starts loads outside past)
      (moment_of shown (course_after k station starts loads outside past))
  pub hears : HearsBy k own value bus (moment_of shown (course_after k station starts loads outside past)
      ∷ (hearing_after k station starts loads outside past).ticks)
  pub address : value.address ≡ was.address
  pub taking : value.taking ≡ was.taking
  pub controller : value.controller ≡ was.controller
