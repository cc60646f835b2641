-- Moments in the midst of a message: a burst has ended, its end is known, nothing runs, and every station is what the message table says of it.
use Rattle.std.specs.Prelude.{◌≡◌, ◌≢◌, ◌⊎◌, ℕ, ◌+◌, ◌≤◌, Bool, true, false, List, length, AllPairs, ⊤}
use Rattle.bus_base.specs.declared.samples.Channel.{Channel}
use Rattle.bus_base.specs.declared.samples.Pair.{Pair}
use Rattle.bus_base.specs.declared.samples.Part.{Part}
use Rattle.bus_words.specs.declared.word.Word.{Word}
use Rattle.bus_line.specs.Past.{runs, heard_within}
use Rattle.bus_line.specs.Channels.{on_channel}
use Rattle.bus_formats.specs.Plans.{StationData}
use Rattle.bus_formats.specs.Times.{relay_wait}
use Rattle.bus_model.specs.Hearing.{heard_on}
use Rattle.bus_model.specs.Message.{After}
use Rattle.bus_model.specs.Orders.{Duty, free, owes, promises, due_after}
use Rattle.bus_model.specs.Standing.{mark_on, superseded, ignored_from, is_owed}
use Rattle.bus_model.specs.Starts.{starts}
use Rattle.bus_model.specs.Terminal.{given_up}
use Rattle.bus_model.specs.World.{Trace}
use Rattle.bus_model.specs.WorldLog.{present_stations}
use Rattle.bus_law_line.specs.Senders.{IsSpent}
use Rattle.bus_law_messages.specs.Settled.{IsServing}
use Rattle.bus_law_parts.specs.Parts.{IsFresh}
use Rattle.bus_law_stations.specs.Turns.{Serves}
use Rattle.bus_law_table.specs.Stations.{loaded_at}
use Rattle.bus_law_phases.specs.Pairing.{Beside}
use Rattle.bus_law_phases.specs.Scenarios.{Scenario, course_of, hearing_of, standing_of, present_of, IsPresentAt}

-- ---- one station that serves

-- no burst runs on a channel as its terminal heard it, and it ignores none
pub record Hears (w : Scenario) (past : List Pair) (station : StationData) : Type 0 where
  pub serves : Serves (course_of w station past)
  pub rests : (d : Channel) → runs w.lag (heard_on d (hearing_of w station past).ticks) ≡ false
  pub heeds : (d : Channel) → ignored_from w.lag (heard_on d (hearing_of w station past).ticks) (mark_on (standing_of w station past).sent d) ≡ false

-- its terminal owes an answer to a burst on channel c that ended in tick e, as this part of the message: it isn't due before now, and nothing took it
-- back so far
pub record Owes (w : Scenario) (past : List Pair) (station : StationData) (c : Channel) (e : ℕ) (part : Part) (words : List Word) (acceptance : Bool) :
    Type 0 where
  pub hears : Hears w past station
  pub duty : (standing_of w station past).duty ≡ owes words acceptance
  pub channel : (standing_of w station past).channel ≡ c
  pub end : (standing_of w station past).end ≡ e
  pub part_is : (standing_of w station past).part ≡ part
  pub kept : given_up w.lag station.terminal (heard_on c (hearing_of w station past).ticks) (standing_of w station past) ≡ false
  pub early : length past ≤ due_after station.terminal e

-- its terminal promised to take the next burst on channel c, after the one that ended in tick e, and that promise hasn't run out
pub record Promises (w : Scenario) (past : List Pair) (station : StationData) (c : Channel) (e command transmitter : ℕ) : Type 0 where
  pub hears : Hears w past station
  pub duty : (standing_of w station past).duty ≡ promises command transmitter
  pub channel : (standing_of w station past).channel ≡ c
  pub end : (standing_of w station past).end ≡ e
  pub kept : superseded w.lag (standing_of w station past) ≡ false
  pub silent : heard_within (heard_on c (hearing_of w station past).ticks) e (length past) ≡ false
  pub ended : e ≤ length past
  pub early : length past ≤ e + relay_wait

-- it has this duty of the message table
abbrev pub HasDuty : Scenario → List Pair → StationData → Channel → ℕ → Part → Duty → Type 0
HasDuty w past station c e part free = IsServing w.lag station (starts w.plan station) w.loads w.outside past
HasDuty w past station c e part (owes words acceptance) = Owes w past station c e part words acceptance
HasDuty w past station c e part (promises command transmitter) = Promises w past station c e command transmitter

-- ---- the stations beside the table

-- the station in control: its terminal keeps what the table says and owes nothing. What its controller does is said beside
pub record IsHolder (w : Scenario) (past : List Pair) (station : StationData) (after : After) : Type 0 where
  pub plan : after.station.plan ≡ station
  pub memory : (present_of w station past).memory ≡ (loaded_at w.loads (length past) after.station).memory
  pub serves : after.station.serves ≡ false
  pub duty : after.duty ≡ free

-- another one: it is what the table says, and has the duty that the table says
pub record IsServer (w : Scenario) (past : List Pair) (c : Channel) (e : ℕ) (part : Part) (station : StationData) (after : After) : Type 0 where
  pub is : present_of w station past ≡ loaded_at w.loads (length past) after.station
  pub duty : HasDuty w past station c e part after.duty

-- a station that is present beside its entry of the table
abbrev pub IsAfter : Scenario → List Pair → ℕ → StationData → Channel → ℕ → Part → StationData → After → Type 0
IsAfter w past place holder c e part station after =
    ((station ≡ holder) × IsHolder w past station after)
    ⊎ ((other : ℕ) × (other ≢ place) × IsPresentAt w other station × IsServer w past c e part station after)

-- ---- the moment

-- after a burst on channel c that ended in tick e, its end known: no burst runs, nothing is left of what was sent, the station at this place holds
-- control, and the stations that are present are those of the table, in its order. An answer that is owed is this part of the message
pub record Underway (w : Scenario) (now : Trace) (place : ℕ) (holder : StationData) (c : Channel) (e : ℕ) (part : Part) (afters : List After) :
    Type 0 where
  pub rests : (d : Channel) → runs w.lag (on_channel d now.shown) ≡ false
  pub fresh : (d : Channel) (station : ℕ) → IsFresh w.plan.faults d now.driven station
  pub spent : (d : Channel) (station : ℕ) → IsSpent w.plan.faults d now.driven station
  pub at : IsPresentAt w place holder
  pub holds : (course_of w holder now.shown).holds ≡ true
  pub serves : (other : ℕ) (station : StationData) → IsPresentAt w other station → other ≢ place → Serves (course_of w station now.shown)
  pub stations : Beside (IsAfter w now.shown place holder c e part) (present_stations w.lag w.plan w.loads w.outside w.absent) afters
  -- at most one of them owes an answer
  pub one : AllPairs (λ a b. is_owed a.duty ≡ true → is_owed b.duty ≡ false) afters

-- ---- how long it lasts

-- nothing comes of a duty before this tick: an answer isn't due before it, and a promise doesn't run out before it
abbrev pub DutyLasts : ℕ → ℕ → StationData → Duty → Type 0
DutyLasts u e station free = ⊤
DutyLasts u e station (owes words acceptance) = u ≤ due_after station.terminal e
DutyLasts u e station (promises command transmitter) = u ≤ e + relay_wait

abbrev pub LastsTo : ℕ → ℕ → After → Type 0
LastsTo u e after = DutyLasts u e after.station.plan after.duty
