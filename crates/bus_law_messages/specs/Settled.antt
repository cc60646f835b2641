-- A moment between two messages: nothing is under way that the next message could meet.
use Rattle.std.specs.Prelude.{◌≡◌, ◌≢◌, ℕ, ◌+◌, ◌<◌, ◌≤◌, Bool, true, false, List, [], ◌∷◌, length, slice_get, Some, None}
use Rattle.bus_base.specs.declared.samples.Channel.{Channel}
use Rattle.bus_base.specs.declared.samples.Pair.{Pair}
use Rattle.bus_line.specs.Past.{runs}
use Rattle.bus_line.specs.Channels.{on_channel}
use Rattle.bus_formats.specs.Plans.{TerminalData, StationData, PlanData}
use Rattle.bus_model.specs.Memory.{TimedLoad}
use Rattle.bus_model.specs.Hearing.{Moment, heard_on}
use Rattle.bus_model.specs.Standing.{mark_on, Standing, ignored_from, is_owed, is_promise}
use Rattle.bus_model.specs.Terminal.{is_over, standing_after}
use Rattle.bus_model.specs.Starts.{Entry, start_of, starts}
use Rattle.bus_model.specs.Transmissions.{drives_on, station_drive, newest_drives}
use Rattle.bus_model.specs.Control.{OutsideTake, yielded_in, outside_takes, course_after, hearing_after}
use Rattle.bus_model.specs.Course.{Course, quiet_from}
use Rattle.bus_model.specs.World.{Trace, is_present}
use Rattle.bus_law_line.specs.Senders.{IsSpent}
use Rattle.bus_law_stations.specs.Turns.{Serves}

-- a terminal is free: s stands of it, after the ticks that it heard
pub record IsFree (k : ℕ) (terminal : TerminalData) (s : Standing) (heard : List Moment) : Type 0 where
  -- no burst runs on a channel as it heard it, and it ignores none
  pub rests : (c : Channel) → runs k (heard_on c heard) ≡ false
  pub heeds : (c : Channel) → ignored_from k (heard_on c heard) (mark_on s.sent c) ≡ false
  -- an answer that it owed is over
  pub over : is_owed s.duty ≡ true → is_over k terminal (heard_on s.channel heard) s ≡ true
  -- it promises nothing
  pub promise : is_promise s.duty ≡ false

-- a controller rests: it holds control, and no message runs; those that ended did so before tick t
pub record InControl (c : Course) (t : ℕ) : Type 0 where
  pub holds : c.holds ≡ true
  pub idle : c.runs ≡ None
  pub before : (tick : ℕ) → t ≤ tick → yielded_in tick c.ended ≡ false

-- a station serves, and its terminal is free
pub record IsServing (k : ℕ) (station : StationData) (starts : Bool) (loads : List TimedLoad) (outside : List OutsideTake) (past : List Pair) : Type 0 where
  pub serves : Serves (course_after k station starts loads outside past)
  pub free : IsFree k station.terminal (standing_after k station.terminal loads (hearing_after k station starts loads outside past))
      (hearing_after k station starts loads outside past).ticks

-- after what was shown and driven the world is settled; the station at this place of the plan holds control
pub record Settled (k : ℕ) (plan : PlanData) (loads : List TimedLoad) (outside : List OutsideTake) (absent : List ℕ) (trace : Trace) (place : ℕ)
    (holder : StationData) : Type 0 where
  -- no burst runs on a channel: each was quiet for k + 1 ticks at least, or showed nothing ever
  pub rests : (c : Channel) → runs k (on_channel c trace.shown) ≡ false
  -- in the newest tick no station drove a channel, and no transmission has an extra left to show there
  pub undriven : (c : Channel) (station : ℕ) → drives_on c (station_drive station (newest_drives trace.driven)) ≡ false
  pub spent : (c : Channel) (station : ℕ) → IsSpent plan.faults c trace.driven station
  -- one station, which is present, holds control
  pub there : slice_get plan.stations place ≡ Some holder
  pub present : is_present absent holder ≡ true
  pub controls : InControl (course_after k holder (starts plan holder) loads outside trace.shown) (length trace.shown)
  -- every other one that is present serves
  pub others : (other : ℕ) (station : StationData) → slice_get plan.stations other ≡ Some station → other ≢ place → is_present absent station ≡ true →
      IsServing k station (starts plan station) loads outside trace.shown

-- no other station takes control by itself in the ticks from a to before b
abbrev pub NoneTakes : ℕ → PlanData → List TimedLoad → List OutsideTake → ℕ → ℕ → ℕ → Type 0
NoneTakes k plan loads outside place a b =
    (other : ℕ) (station : StationData) → slice_get plan.stations other ≡ Some station → other ≢ place →
    (tick : ℕ) → a ≤ tick → tick < b → outside_takes k station (starts plan station) loads outside tick outside ≡ []

-- no message of a controller starts in the next n ticks: c is its course, after what the channels showed
abbrev pub NoneStarts : Course → List Pair → ℕ → Type 0
NoneStarts c past n =
    (entry : Entry) (later : List Entry) → c.left ≡ entry ∷ later → length past + n ≤ start_of c.opening c.retry c.origin entry (quiet_from past)
