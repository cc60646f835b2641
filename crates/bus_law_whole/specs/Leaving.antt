-- A bus that the station in control left between two messages: nobody holds control.
use Rattle.std.specs.Prelude.{◌≡◌, ℕ, ◌+◌, ◌<◌, ◌≤◌, false, not, ◌==◌, List, ◌∷◌, ◌++◌, filter}
use Rattle.bus_base.specs.Samples.{quiet_pairs}
use Rattle.bus_base.specs.declared.samples.Channel.{Channel}
use Rattle.bus_line.specs.Past.{runs}
use Rattle.bus_line.specs.Channels.{on_channel, bursts}
use Rattle.bus_formats.specs.Plans.{StationData}
use Rattle.bus_model.specs.Message.{Present, address_of_station}
use Rattle.bus_model.specs.Starts.{starts}
use Rattle.bus_model.specs.World.{Trace}
use Rattle.bus_law_line.specs.Senders.{IsSpent}
use Rattle.bus_law_messages.specs.Settled.{IsServing}
use Rattle.bus_law_parts.specs.Parts.{IsFresh}
use Rattle.bus_law_table.specs.Stations.{ArePresent}
use Rattle.bus_law_phases.specs.Scenarios.{Scenario, IsPresentAt, trace_at, shown_at, driven_at, drivers_at, blocks_in, attempts_in, commands_in}
use Rattle.bus_law_whole.specs.Changes.{changed}

-- the stations of the table but the one with this address
abbrev pub left_by : ℕ → List Present → List Present
left_by address stations = filter (λ station. not (address == address_of_station station)) stations

-- the bus that this station leaves with tick a
abbrev pub without_station : Scenario → ℕ → StationData → Scenario
without_station w a station = changed w a (station.terminal.address ∷ w.absent) w.outside

-- no burst runs, and nothing is left of what was sent; every station that is present serves, and its terminal is free; and they are these of the message
-- table
pub record RestsUncontrolled (w : Scenario) (now : Trace) (stations : List Present) : Type 0 where
  pub rests : (d : Channel) → runs w.lag (on_channel d now.shown) ≡ false
  pub fresh : (d : Channel) (station : ℕ) → IsFresh w.plan.faults d now.driven station
  pub spent : (d : Channel) (station : ℕ) → IsSpent w.plan.faults d now.driven station
  pub serves : (place : ℕ) (station : StationData) → IsPresentAt w place station → IsServing w.lag station (starts w.plan station) w.loads w.outside now.shown
  pub are : ArePresent w.lag w.plan w.loads w.outside w.absent now.shown stations

-- n ticks later nobody holds control still: both channels were quiet, nothing came to pass, and no two stations drove one channel
pub record LastsUncontrolled (w : Scenario) (t n : ℕ) (stations : List Present) : Type 0 where
  pub quiet : shown_at w (t + n) ≡ quiet_pairs n ++ shown_at w t
  pub rests : RestsUncontrolled w (trace_at w (t + n)) stations
  pub blocks : blocks_in w (shown_at w (t + n)) ≡ blocks_in w (shown_at w t)
  pub bursts_are : bursts w.lag (shown_at w (t + n)) ≡ bursts w.lag (shown_at w t)
  pub attempts : attempts_in w (shown_at w (t + n)) ≡ attempts_in w (shown_at w t)
  pub counted : commands_in w (driven_at w (t + n)) ≡ commands_in w (driven_at w t)
  pub alone : (i : ℕ) → t ≤ i → i < t + n → (c : Channel) → drivers_at w i c ≤ 1
