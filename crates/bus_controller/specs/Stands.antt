-- For which courses and pasts the states of a controller stand. These records need no belief: they say nothing but what the step of each state keeps.
use Rattle.std.specs.Prelude.{◌≡◌, ℕ, suc, ◌+◌, ◌-◌, min, ◌≤◌, true, false, List, [], ◌∷◌, ◌++◌, length, take, All, Option, Some, None, option_map}
use Rattle.bus_base.specs.declared.samples.Sample.{Sample}
use Rattle.bus_base.specs.declared.samples.Pair.{Pair}
use Rattle.bus_base.specs.declared.samples.Part.{Part}
use Rattle.bus_base.specs.declared.samples.Part.TheVariants.{First}
use Rattle.bus_words.specs.declared.word.Word.{Word}
use Rattle.bus_line.specs.Past.{quiet, runs, first_tick, first_heard, end_since, Burst, end_of, rest_of}
use Rattle.bus_line.specs.Channels.{on_channel}
use Rattle.bus_line.specs.Cutting.{running_slots}
use Rattle.bus_formats.specs.Accepted.{HasItemRanges}
use Rattle.bus_formats.specs.Forms.{command_words, answers_of}
use Rattle.bus_formats.specs.Readings.{read_answer}
use Rattle.bus_formats.specs.Times.{no_response}
use Rattle.bus_formats.specs.declared.form.Shape.{Shape}
use Rattle.bus_formats.specs.declared.form.Outcome.TheVariants.{BadReply}
use Rattle.bus_formats.specs.declared.form.Reading.TheVariants.{Good, Ends}
use Rattle.bus_formats.specs.declared.log.Attempt.{Attempt}
use Rattle.bus_formats.specs.Times.{settling_quiet}
use Rattle.bus_model.specs.Starts.{Entry, Opening, usual, superseding, taking, start_of}
use Rattle.bus_model.specs.Attempts.{Begun, is_offer}
use Rattle.bus_model.specs.Controller.{reply, whole}
use Rattle.bus_model.specs.Course.{Course, runs_next, run_on, quiet_from}
use Rattle.bus_controller.specs.Agendas.{AgendaData}
use Rattle.bus_controller.specs.declared.opening.Opening.{Opening as Wait}
use Rattle.bus_controller.specs.declared.opening.Opening.TheVariants as openings
use Rattle.bus_controller.specs.declared.holding.Holding.{Holding}
use Rattle.bus_controller.specs.declared.sending.Sending.{Sending}
use Rattle.bus_controller.specs.declared.expecting.Expecting.{Expecting}
use Rattle.bus_controller.specs.declared.settling.Settling.{Settling}
use Rattle.bus_controller.specs.declared.doubting.Doubting.{Doubting}
use Rattle.bus_controller.specs.declared.yielded.Yielded.{Yielded}
use Rattle.bus_controller.specs.declared.states.ControllerState.{ControllerState}
use Rattle.bus_controller.specs.declared.states.ControllerState.TheVariants as states
use Rattle.bus_controller.specs.declared.states.ControllerNext.{ControllerNext}
use Rattle.bus_controller.specs.declared.states.ControllerEvent.{ControllerEvent}
use Rattle.bus_controller.specs.declared.states.ControllerEvent.TheVariants as events

-- what is told of a tick: the attempt that ended in it, if any
abbrev pub told : ControllerEvent → List Attempt
told events.Nothing = []
told (events.Ended attempt) = attempt ∷ []

abbrev pub agenda_of : Course → AgendaData
agenda_of c = record { left = c.left; live = c.live; retry = c.retry; origin = c.origin }

pub record AgendaStands (c : Course) (agenda : AgendaData) : Type 0 where
  pub is : agenda ≡ agenda_of c
  pub ranges : All (λ e. HasItemRanges e.item) c.left

-- an attempt runs
pub record AttemptStands (c : Course) (past : List Pair) (agenda : AgendaData) (b : Begun) : Type 0 where
  pub keeps : AgendaStands c agenda
  pub runs : runs_next past c ≡ Some b
  pub holds : c.holds ≡ true
  pub began : b.start ≤ length past
  pub item : HasItemRanges b.entry.item
  pub later : List Entry
  pub here : c.left ≡ b.entry ∷ later

-- what the attempt's channel showed
abbrev pub own : Begun → List Pair → List Sample
own b past = on_channel b.state.channel past

pub record SendingStands (k : ℕ) (c : Course) (past : List Pair) (s : Sending) : Type 0 where
  pub attempt : AttemptStands c past s.agenda s.begun
  pub burst : s.burst.items ≡ command_words s.begun.entry.item.kind
  pub sent : s.sent ≡ min (length past - s.begun.start) 65535
  pub going : end_since k (own s.begun past) s.begun.start ≡ None
  pub quiet_is : s.quiet ≡ min (quiet (own s.begun past)) (length past - s.begun.start)
  pub few : s.quiet ≤ k

-- an answer to the command, which ended here, is awaited
pub record AwaitsFirst (k : ℕ) (samples : List Sample) (b : Begun) (end : ℕ) : Type 0 where
  pub ended : end_since k samples b.start ≡ Some end
  pub shape : Shape
  pub expected : (answers_of b.entry.item.kind).first ≡ Some shape

-- an answer to the first answer, which was good and ended here, is awaited
pub record AwaitsSecond (k : ℕ) (samples : List Sample) (b : Begun) (status end : ℕ) : Type 0 where
  pub command : ℕ
  pub first : AwaitsFirst k samples b command
  pub burst : Burst
  pub heard : reply k samples command ≡ whole burst
  pub good : read_answer b.entry.item.kind First burst.slots (rest_of burst) ≡ Good status
  pub shape : Shape
  pub expected : (answers_of b.entry.item.kind).second ≡ Some shape
  pub end_is : end_of burst ≡ end

abbrev pub Awaits : ℕ → List Sample → Begun → Option ℕ → ℕ → Type 0
Awaits k samples b None end = AwaitsFirst k samples b end
Awaits k samples b (Some status) end = AwaitsSecond k samples b status end

-- no answer has begun
pub record IsAwaited (k : ℕ) (samples : List Sample) (end : ℕ) : Type 0 where
  pub none : first_heard samples end ≡ None
  pub soon : length samples ≤ end + no_response
  pub rests : runs k samples ≡ false

-- an answer runs, with these first slots
pub record IsRunning (k : ℕ) (samples : List Sample) (end : ℕ) (slots : List (Option Word)) : Type 0 where
  pub first : ℕ
  pub heard : first_heard samples end ≡ Some first
  pub soon : first ≤ end + no_response
  pub going : end_since k samples first ≡ None
  pub on : runs k samples ≡ true
  pub first_is : first_tick k samples ≡ first
  pub kept : slots ≡ take 34 (running_slots k samples)

abbrev pub Hears : ℕ → List Sample → ℕ → Option (List (Option Word)) → Type 0
Hears k samples end None = IsAwaited k samples end
Hears k samples end (Some slots) = IsRunning k samples end slots

abbrev pub slots_of : Expecting → Option (List (Option Word))
slots_of s = option_map (λ slots. slots.items) s.answer

pub record ExpectingStands (k : ℕ) (c : Course) (past : List Pair) (s : Expecting) : Type 0 where
  pub attempt : AttemptStands c past s.agenda s.begun
  pub awaits : Awaits k (own s.begun past) s.begun s.first s.end.0
  pub known : s.end.0 + suc k ≤ length past
  pub answer : Hears k (own s.begun past) s.end.0 (slots_of s)

-- a bad answer to an offer ended here
pub record IsDoubted (k : ℕ) (samples : List Sample) (b : Begun) (end : ℕ) : Type 0 where
  pub command : ℕ
  pub first : AwaitsFirst k samples b command
  pub burst : Burst
  pub heard : reply k samples command ≡ whole burst
  pub part : Part
  pub status : Option ℕ
  pub bad : read_answer b.entry.item.kind First burst.slots (rest_of burst) ≡ Ends (BadReply part) status
  pub offer : is_offer b.entry.item.kind ≡ true
  pub end_is : end_of burst ≡ end

pub record DoubtingStands (k : ℕ) (c : Course) (past : List Pair) (s : Doubting) : Type 0 where
  pub attempt : AttemptStands c past s.agenda s.begun
  pub doubted : IsDoubted k (own s.begun past) s.begun s.end.0
  pub known : s.end.0 ≤ length past

-- ---- between messages

abbrev pub OpeningStands : Wait → Opening → ℕ → Type 0
OpeningStands (openings.Usual need) (usual needed tick) now = (need ≡ needed) × (tick ≤ now)
OpeningStands (openings.Superseding channel) (superseding tick other) now = (channel ≡ other) × (tick ≤ now)
OpeningStands (openings.Taking first) (taking tick) now = first.0 ≡ tick
OpeningStands _ _ now = ⊥

pub record WaitStands (c : Course) (past : List Pair) (agenda : AgendaData) (opening : Wait) : Type 0 where
  pub keeps : AgendaStands c agenda
  pub runs : c.runs ≡ None
  pub holds : c.holds ≡ true
  pub opens : OpeningStands opening c.opening (length past)
  pub due : (entry : Entry) (later : List Entry) → c.left ≡ entry ∷ later →
      length past ≤ start_of c.opening c.retry c.origin entry (quiet_from past)

pub record HoldingStands (c : Course) (past : List Pair) (s : Holding) : Type 0 where
  pub waits : WaitStands c past s.agenda s.opening
  pub none : runs_next past c ≡ None

pub record SettlingStands (c : Course) (past : List Pair) (s : Settling) : Type 0 where
  pub waits : WaitStands c past s.agenda (openings.Usual settling_quiet)
  pub none : runs_next past c ≡ None

pub record YieldedStands (c : Course) (s : Yielded) : Type 0 where
  pub keeps : AgendaStands c s.agenda
  pub runs : c.runs ≡ None
  pub holds : c.holds ≡ false

-- the state stands for the course and the past
abbrev pub StateStands : ℕ → Course → List Pair → ControllerState → Type 0
StateStands k c past (states.Holding s) = HoldingStands c past s
StateStands k c past (states.Sending s) = SendingStands k c past s
StateStands k c past (states.Expecting s) = ExpectingStands k c past s
StateStands k c past (states.Settling s) = SettlingStands c past s
StateStands k c past (states.Doubting s) = DoubtingStands k c past s
StateStands k c past (states.Yielded s) = YieldedStands c s

-- so do the state after a tick and what is told of it
abbrev pub NextStands : ℕ → Course → Pair → List Pair → ControllerNext → Type 0
NextStands k c shown past next =
    StateStands k (run_on k shown past c (runs_next past c)) (shown ∷ past) next.state
    × ((run_on k shown past c (runs_next past c)).ended ≡ told next.event ++ c.ended)
