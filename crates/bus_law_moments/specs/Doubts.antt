-- A moment between two messages in which a station that offered control doubts whether it was accepted (dynamic bus control, MIL-STD-1553B
-- 4.3.3.5.1.7.1; that it doubts is the project's own).
use Rattle.std.specs.Prelude.{◌≡◌, ◌≢◌, ℕ, ◌+◌, ◌<◌, true, false, if◌then◌else◌, ◌==◌, List, map, length, Some, None}
use Rattle.bus_base.specs.declared.samples.Channel.{Channel}
use Rattle.bus_base.specs.declared.samples.Pair.{Pair}
use Rattle.bus_line.specs.Past.{runs}
use Rattle.bus_line.specs.Channels.{on_channel}
use Rattle.bus_formats.specs.Plans.{StationData}
use Rattle.bus_formats.specs.Times.{taking_over, doubting}
use Rattle.bus_formats.specs.declared.form.Outcome.TheVariants.{Yielded}
use Rattle.bus_formats.specs.declared.log.Attempt.{Attempt}
use Rattle.bus_retry.specs.Retries.{next_of}
use Rattle.bus_model.specs.Attempts.{Begun, without_words}
use Rattle.bus_model.specs.Course.{quiet_from}
use Rattle.bus_model.specs.Message.{Present}
use Rattle.bus_model.specs.Run.{after_attempt}
use Rattle.bus_model.specs.Starts.{taking, starts}
use Rattle.bus_model.specs.World.{Trace}
use Rattle.bus_model.specs.WorldLog.{present_stations}
use Rattle.bus_law_line.specs.Senders.{IsSpent}
use Rattle.bus_law_control.specs.Offers.{IsDoubting}
use Rattle.bus_law_messages.specs.Settled.{IsServing}
use Rattle.bus_law_parts.specs.Parts.{IsFresh}
use Rattle.bus_law_table.specs.Stations.{loaded_at}
use Rattle.bus_law_phases.specs.Commands.{attempt_recorded}
use Rattle.bus_law_phases.specs.Scenarios.{Scenario, course_of, present_of, IsPresentAt}

-- the message of this station offered control and was answered badly by a burst that ended in tick x: it keeps control while both channels stay quiet,
-- for 80 ticks, and yields to the first sample
pub record IsInDoubt (w : Scenario) (past : List Pair) (station : StationData) (begun : Begun) (x : ℕ) : Type 0 where
  pub holds : (course_of w station past).holds ≡ true
  pub runs : (course_of w station past).runs ≡ Some begun
  pub doubts : IsDoubting w.lag begun (on_channel begun.state.channel past) x
  pub quiet : quiet_from past ≡ x
  pub known : x + w.lag < length past
  pub early : length past < x + doubting

-- its attempt as it will be recorded once it yields, in the tick of the first command of the station that took control
abbrev pub attempt_yielded : StationData → Begun → ℕ → Attempt
attempt_yielded station begun x = attempt_recorded station.terminal.address begun (without_words Yielded None None) (x + taking_over)

-- to the message table it yielded already
abbrev pub yielded_station : Begun → Present → Present
yielded_station begun station = record (after_attempt begun Yielded (next_of begun.entry.item begun.state Yielded) station) { serves = true }

-- a station as the table has it, where that with this address is in doubt
abbrev pub present_in_doubt : Scenario → List Pair → ℕ → Begun → StationData → Present
present_in_doubt w past address begun station =
    if station.terminal.address == address then yielded_station begun (present_of w station past) else present_of w station past

-- no burst runs, and nothing is left of what was sent; the station at this place took control, and its first command starts soon; the one that offered
-- it is in doubt; every other one that is present serves, and its terminal is free; and the stations that are present are these of the message table
pub record RestedInDoubt (w : Scenario) (now : Trace) (place : ℕ) (holder : StationData) (stations : List Present) (begun : Begun) (x : ℕ) : Type 0 where
  pub rests : (d : Channel) → runs w.lag (on_channel d now.shown) ≡ false
  pub fresh : (d : Channel) (station : ℕ) → IsFresh w.plan.faults d now.driven station
  pub spent : (d : Channel) (station : ℕ) → IsSpent w.plan.faults d now.driven station
  pub at : IsPresentAt w place holder
  pub holds : (course_of w holder now.shown).holds ≡ true
  pub idle : (course_of w holder now.shown).runs ≡ None
  pub takes : (course_of w holder now.shown).opening ≡ taking (x + taking_over)
  pub before : ℕ
  pub offerer : StationData
  pub offerer_at : IsPresentAt w before offerer
  pub apart : before ≢ place
  pub doubt : IsInDoubt w now.shown offerer begun x
  pub others : (other : ℕ) (station : StationData) → IsPresentAt w other station → other ≢ place → other ≢ before →
      IsServing w.lag station (starts w.plan station) w.loads w.outside now.shown
  pub are : map (present_in_doubt w now.shown offerer.terminal.address begun) (present_stations w.lag w.plan w.loads w.outside w.absent)
      ≡ map (loaded_at w.loads (length now.shown)) stations
