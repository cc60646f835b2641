-- By which cutters a station's terminal hears: its own, or those of a receiver that hears for the whole bus.
use Rattle.std.specs.Prelude.{◌≡◌, ℕ, Bool, ◌||◌, if◌then◌else◌, List}
use Rattle.bus_base.specs.declared.samples.Channel.TheVariants.{A, B}
use Rattle.bus_base.specs.declared.samples.Pair.{Pair}
use Rattle.bus_line.specs.Channels.{on_channel}
use Rattle.bus_receiver.specs.Cuts.{CuttersStand, CuttersHear}
use Rattle.bus_receiver.specs.Moments.{moment_of}
use Rattle.bus_receiver.specs.declared.cutters.Cutters.{Cutters}
use Rattle.bus_receiver.specs.declared.receiver.Moment.{Moment as HeardMoment}
use Rattle.bus_formats.specs.Plans.{StationData}
use Rattle.bus_model.specs.Memory.{TimedLoad}
use Rattle.bus_model.specs.Hearing.{Moment, heard_on}
use Rattle.bus_model.specs.Control.{OutsideTake, holds_control, hearing_after}
use Rattle.bus_station.specs.declared.station.Station.{Station}

-- its own cutters, or those of the bus
abbrev pub cutters_by : Bool → Station → Cutters → Cutters
cutters_by own value bus = if own then value.terminal.cutters else bus

-- those stand for what the terminal heard
abbrev pub HearsBy : ℕ → Bool → Station → Cutters → List Moment → Type 0
HearsBy k own value bus ticks = CuttersStand k (cutters_by own value bus) (heard_on A ticks) (heard_on B ticks)

-- a station in step with a receiver of the bus: while it serves, the receiver's cutters stand for what its terminal heard, unless it is alone; then,
-- and while it holds control, the terminal's own do
unfoldable pub InStep : ℕ → StationData → Bool → List TimedLoad → List OutsideTake → Station → Cutters → List Pair → Type 0
InStep k station starts loads outside value bus past =
    HearsBy k (holds_control k station starts loads outside past || value.alone) value bus (hearing_after k station starts loads outside past).ticks

-- what a receiver tells of the tick that follows a past, with its cutters before and after it
pub record IsNext (k : ℕ) (moment : HeardMoment) (before after : Cutters) (past : List Pair) : Type 0 where
  pub is : moment ≡ moment_of k moment.shown past
  pub hears : CuttersHear k before after moment.shown moment.cuts
  pub stands : CuttersStand k before (on_channel A past) (on_channel B past)
