-- For which hearings the states of a terminal stand.
use Rattle.std.specs.Prelude.{◌≡◌, ℕ, suc, ◌+◌, ◌<◌, ◌≤◌, Bool, true, false, ◌||◌, List, [], ◌∷◌, length, Option, Some, None, is_some, ⊤}
use Rattle.bus_base.specs.declared.samples.Channel.{Channel}
use Rattle.bus_base.specs.declared.samples.Sample.{Sample}
use Rattle.bus_line.specs.Past.{heard_within, runs, first_tick}
use Rattle.bus_formats.specs.Plans.{TerminalData}
use Rattle.bus_formats.specs.Times.{dead_ticks}
use Rattle.bus_formats.specs.Times.{relay_wait}
use Rattle.bus_model.specs.Memory.{Memory, TimedLoad, with_loads}
use Rattle.bus_model.specs.Orders.{Duty, free, owes, promises, due_after, Taken}
use Rattle.bus_model.specs.Hearing.{Moment, heard_on}
use Rattle.bus_model.specs.Standing.{Standing, at_rest, mark_on, ignored_from, superseded, Handled, obeys}
use Rattle.bus_model.specs.Terminal.{given_up, is_over, after_tick, order_now, taken_by}
use Rattle.bus_terminal.specs.Holding.{EarsStand}
use Rattle.bus_terminal.specs.Quiet.{quiet_moments}
use Rattle.bus_terminal.specs.Handling.{IsWaiting}
use Rattle.bus_terminal.specs.Newest.{is_left, AreMarked, IsNewest}
use Rattle.bus_terminal.specs.declared.common.Common.{Common}
use Rattle.bus_terminal.specs.declared.state.Sends.{Sends}
use Rattle.bus_terminal.specs.declared.listening.Listening.{Listening}
use Rattle.bus_terminal.specs.declared.promised.Promised.{Promised}
use Rattle.bus_terminal.specs.declared.owing.Owing.{Owing}
use Rattle.bus_terminal.specs.declared.answering.Answering.{Answering}
use Rattle.bus_terminal.specs.declared.state.TerminalState.{TerminalState}
use Rattle.bus_terminal.specs.declared.state.TerminalState.TheVariants as states
use Rattle.bus_terminal.specs.declared.state.TerminalEvent.{TerminalEvent}
use Rattle.bus_terminal.specs.declared.state.TerminalEvent.TheVariants as events
use Rattle.bus_terminal.specs.declared.state.TerminalNext.{TerminalNext}

-- the numbers of a plan that the terminal rests on; an answer begins after the end that it answers is known
pub record TerminalFits (k : ℕ) (terminal : TerminalData) : Type 0 where
  pub address : terminal.address ≤ 31
  pub prompt : suc k ≤ dead_ticks terminal.delay
  pub delay : terminal.delay < 256
  pub lag : k ≤ 3

-- the loads for the terminal were made: each in a tick that was heard
abbrev pub AreMade : ℕ → ℕ → List TimedLoad → Type 0
AreMade address now [] = ⊤
AreMade address now (load ∷ loads) = (load.address ≡ address → load.tick < now) × AreMade address now loads

-- what is the same in every state
pub record CommonStands (k : ℕ) (terminal : TerminalData) (loads : List TimedLoad) (common : Common) (past : List Moment) (s : Standing) : Type 0 where
  pub plan : common.plan ≡ terminal
  pub fits : TerminalFits k terminal
  pub memory : common.memory ≡ with_loads terminal.address (length past) loads s.memory
  pub absorbed : with_loads terminal.address (length past) loads common.memory ≡ common.memory
  pub made : AreMade terminal.address (length past) loads
  pub ears : EarsStand k terminal.address common.ears past s
  pub ended : s.end ≤ length past
  pub marked : AreMarked k terminal.address past s
  pub newest : is_left s.duty ≡ true → IsNewest k (length past) s

-- what was left by the last order counts no more
abbrev pub rests : ℕ → TerminalData → List Moment → Standing → Duty → Bool
rests k terminal past s free = true
rests k terminal past s (promises command transmitter) = superseded k s
rests k terminal past s (owes words acceptance) = given_up k terminal (heard_on s.channel past) s || is_over k terminal (heard_on s.channel past) s

pub record ListeningStands (k : ℕ) (terminal : TerminalData) (loads : List TimedLoad) (state : Listening) (past : List Moment) (s : Standing) : Type 0 where
  pub common : CommonStands k terminal loads state.common past s
  pub rests_now : rests k terminal past s s.duty ≡ true

-- the burst that runs on a channel began after at most 30 dead ticks, counted from an end
pub record IsAwaited (k : ℕ) (heard : List Sample) (end : ℕ) : Type 0 where
  pub running : runs k heard ≡ true
  pub after : end ≤ first_tick k heard
  pub soon : first_tick k heard ≤ end + relay_wait

-- at most 30 dead ticks passed since the relay's command burst, or the awaited burst runs; its channel isn't ignored
pub record PromisedStands (k : ℕ) (terminal : TerminalData) (loads : List TimedLoad) (state : Promised) (past : List Moment) (s : Standing) : Type 0 where
  pub common : CommonStands k terminal loads state.common past s
  pub waiting : IsWaiting state.waiting s
  pub fresh : superseded k s ≡ false
  pub heard : state.heard ≡ heard_within (heard_on s.channel past) s.end (length past)
  pub within : state.heard ≡ false → length past ≤ s.end + relay_wait
  pub awaited : state.heard ≡ true → IsAwaited k (heard_on s.channel past) s.end
  pub heeded : ignored_from k (heard_on s.channel past) (mark_on s.sent s.channel) ≡ false

pub record IsSending (sends : Sends) (s : Standing) : Type 0 where
  pub channel : s.channel ≡ sends.channel
  pub end : s.end ≡ sends.end
  pub part : s.part ≡ sends.part
  pub duty : s.duty ≡ owes sends.answer.words.items sends.answer.acceptance

-- fewer than its own dead ticks passed since the burst that it answers
pub record OwingStands (k : ℕ) (terminal : TerminalData) (loads : List TimedLoad) (state : Owing) (past : List Moment) (s : Standing) : Type 0 where
  pub common : CommonStands k terminal loads state.common past s
  pub sends : IsSending state.sends s
  pub kept : given_up k terminal (heard_on s.channel past) s ≡ false
  pub early : length past < due_after terminal s.end

-- the answer is due or has begun, and its channel wasn't quiet for k + 1 ticks in a row from its first tick on
pub record AnsweringStands (k : ℕ) (terminal : TerminalData) (loads : List TimedLoad) (state : Answering) (past : List Moment) (s : Standing) : Type 0 where
  pub common : CommonStands k terminal loads state.common past s
  pub sends : IsSending state.sends s
  pub kept : given_up k terminal (heard_on s.channel past) s ≡ false
  pub runs : is_over k terminal (heard_on s.channel past) s ≡ false
  pub sent : due_after terminal s.end + state.sent ≡ length past
  pub marked : 0 < state.sent → mark_on s.sent s.channel ≡ Some (due_after terminal s.end)

abbrev pub StateStands : ℕ → TerminalData → List TimedLoad → TerminalState → List Moment → Standing → Type 0
StateStands k terminal loads (states.Listening state) past s = ListeningStands k terminal loads state past s
StateStands k terminal loads (states.Promised state) past s = PromisedStands k terminal loads state past s
StateStands k terminal loads (states.Owing state) past s = OwingStands k terminal loads state past s
StateStands k terminal loads (states.Answering state) past s = AnsweringStands k terminal loads state past s

-- what an order in the newest tick told, where s stood before it: the block that was taken, with the tick and the channel
abbrev pub TakenIs : TerminalEvent → ℕ → Channel → Option Taken → Type 0
TakenIs events.Nothing tick c taken = taken ≡ None
TakenIs (events.Took delivery) tick c taken =
    (delivery.tick.0 ≡ tick) × (delivery.channel ≡ c)
    × (taken ≡ Some record { sub = delivery.sub; broadcast = delivery.broadcast; words = delivery.words })
TakenIs events.Accepted tick c taken = taken ≡ None

-- the channel on which something is handled
abbrev pub channel_of : Standing → Option Handled → Channel
channel_of s None = s.channel
channel_of s (Some (obeys c end order rest)) = c
channel_of s (Some _) = s.channel

-- what the newest tick told of acceptance, where an answer that accepts has this end, or none: exactly where control is accepted
abbrev pub AcceptedIs : TerminalEvent → Option ℕ → Type 0
AcceptedIs events.Nothing accepted = accepted ≡ None
AcceptedIs (events.Took delivery) accepted = accepted ≡ None
AcceptedIs events.Accepted accepted = is_some accepted ≡ true

-- the state after a tick, and what is told of it, where control is accepted with this end
pub record NextStands (k : ℕ) (terminal : TerminalData) (loads : List TimedLoad) (next : TerminalNext) (past : List Moment) (now : Moment)
    (s : Standing) (end : Option ℕ) : Type 0 where
  pub state : StateStands k terminal loads next.state (now ∷ past) (after_tick k terminal loads now past s)
  pub taken : TakenIs next.event (length past) (channel_of s (order_now k terminal (now ∷ past) s))
      (taken_by k terminal loads (length past) now.has_items s (order_now k terminal (now ∷ past) s))
  pub accepted : AcceptedIs next.event end

-- a state that listens as after quiet ticks, with the plan and the memory of another
abbrev pub RestsFrom : ℕ → TerminalState → Common → Type 0
RestsFrom k (states.Listening state) common =
    (state.common.plan ≡ common.plan) × (state.common.memory ≡ common.memory)
    × ((own n : ℕ) (memory : Memory) → EarsStand k own state.common.ears (quiet_moments n) (at_rest memory))
RestsFrom k _ common = ⊥
