-- A moment between two messages.
use Rattle.std.specs.Prelude.{◌≡◌, ◌≢◌, ℕ, true, false, List, None}
use Rattle.bus_base.specs.declared.samples.Channel.{Channel}
use Rattle.bus_line.specs.Past.{runs}
use Rattle.bus_line.specs.Channels.{on_channel}
use Rattle.bus_formats.specs.Plans.{StationData}
use Rattle.bus_model.specs.Message.{Present}
use Rattle.bus_model.specs.Starts.{starts}
use Rattle.bus_model.specs.World.{Trace}
use Rattle.bus_law_line.specs.Senders.{IsSpent}
use Rattle.bus_law_messages.specs.Settled.{IsServing}
use Rattle.bus_law_parts.specs.Parts.{IsFresh}
use Rattle.bus_law_table.specs.Stations.{ArePresent}
use Rattle.bus_law_phases.specs.Scenarios.{Scenario, course_of, IsPresentAt}

-- no burst runs, and nothing is left of what was sent; the station at this place holds control, and no message of it runs; every other one that is
-- present serves, and its terminal is free; and the stations that are present are these of the message table
pub record Rested (w : Scenario) (now : Trace) (place : ℕ) (holder : StationData) (stations : List Present) : Type 0 where
  pub rests : (d : Channel) → runs w.lag (on_channel d now.shown) ≡ false
  pub fresh : (d : Channel) (station : ℕ) → IsFresh w.plan.faults d now.driven station
  pub spent : (d : Channel) (station : ℕ) → IsSpent w.plan.faults d now.driven station
  pub at : IsPresentAt w place holder
  pub holds : (course_of w holder now.shown).holds ≡ true
  pub idle : (course_of w holder now.shown).runs ≡ None
  pub others : (other : ℕ) (station : StationData) → IsPresentAt w other station → other ≢ place →
      IsServing w.lag station (starts w.plan station) w.loads w.outside now.shown
  pub are : ArePresent w.lag w.plan w.loads w.outside w.absent now.shown stations
