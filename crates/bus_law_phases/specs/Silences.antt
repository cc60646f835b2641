-- Ticks in which nothing is due of any station.
use Rattle.std.specs.Prelude.{◌≡◌, ◌⊎◌, ℕ, ◌+◌, ◌≤◌, false, List}
use Rattle.bus_base.specs.declared.samples.Channel.{Channel}
use Rattle.bus_base.specs.declared.samples.Pair.{Pair}
use Rattle.bus_line.specs.Past.{runs}
use Rattle.bus_line.specs.Channels.{on_channel}
use Rattle.bus_formats.specs.Plans.{StationData}
use Rattle.bus_formats.specs.Times.{ending_quiet}
use Rattle.bus_model.specs.Control.{is_idle}
use Rattle.bus_model.specs.Course.{quiet_from}
use Rattle.bus_model.specs.Starts.{starts}
use Rattle.bus_model.specs.World.{Trace}
use Rattle.bus_law_line.specs.Senders.{IsSpent}
use Rattle.bus_law_stations.specs.Silence.{StationRests}
use Rattle.bus_law_phases.specs.Scenarios.{Scenario, IsPresentAt}

-- nothing is due of a station that is present in the next n ticks, after what the channels showed
abbrev pub AllRest : Scenario → List Pair → ℕ → Type 0
AllRest w past n =
    (place : ℕ) (station : StationData) → IsPresentAt w place station →
    StationRests w.lag station (starts w.plan station) w.loads w.outside past n

-- no burst runs on a channel, and of no transmission an extra is left to show
pub record IsQuiet (w : Scenario) (now : Trace) : Type 0 where
  pub rests : (d : Channel) → runs w.lag (on_channel d now.shown) ≡ false
  pub spent : (d : Channel) (station : ℕ) → IsSpent w.plan.faults d now.driven station

-- a station that is present isn't idle: it has a message that runs, or items left, and holds control
pub record SomeoneIsBusy (w : Scenario) (past : List Pair) : Type 0 where
  pub place : ℕ
  pub station : StationData
  pub at : IsPresentAt w place station
  pub busy : is_idle w.lag station (starts w.plan station) w.loads w.outside past ≡ false

-- the run isn't over before tick u, if nothing happens until then: somebody is busy, or both channels will have been quiet for too short a time
abbrev pub GoesOnTo : Scenario → List Pair → ℕ → Type 0
GoesOnTo w past u = SomeoneIsBusy w past ⊎ (u ≤ quiet_from past + ending_quiet)
