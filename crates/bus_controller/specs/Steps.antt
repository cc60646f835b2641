-- The steps of a controller's states, as the code takes them. What they are to mean stands in `Stands`.
use Rattle.std.specs.Prelude.{ℕ, ◌+◌, ◌-◌, min, Bool, true, false, not, ◌&&◌, ◌==◌, nat_le, nat_lt, if◌then◌else◌, List, [], ◌∷◌, ◌++◌, take, slice_get, Option, Some, None, option_map}
use Rattle.bus_base.specs.Samples.{sample_on, is_quiet}
use Rattle.bus_base.specs.declared.samples.Tick.{Tick}
use Rattle.bus_base.specs.declared.samples.Sample.{Sample}
use Rattle.bus_base.specs.declared.samples.Part.TheVariants as parts
use Rattle.bus_base.specs.declared.samples.Drive.{Drive}
use Rattle.bus_base.specs.declared.samples.Drive.TheVariants.{Silent}
use Rattle.bus_words.specs.declared.word.Word.{Word}
use Rattle.bus_line.specs.declared.cutter.Cut.{Cut}
use Rattle.bus_line.specs.declared.cutter.Cut.TheVariants as cuts
use Rattle.bus_formats.specs.Forms.{command_words, answers_of}
use Rattle.bus_formats.specs.Readings.{read_answer}
use Rattle.bus_formats.specs.Times.{no_response}
use Rattle.bus_formats.specs.declared.form.Shape.{Shape}
use Rattle.bus_formats.specs.declared.form.Outcome.{Outcome}
use Rattle.bus_formats.specs.declared.form.Outcome.TheVariants as outcomes
use Rattle.bus_formats.specs.declared.form.Reading.{Reading}
use Rattle.bus_formats.specs.declared.form.Reading.TheVariants as readings
use Rattle.bus_retry.specs.Retries.{next_of}
use Rattle.bus_formats.specs.Times.{settling_quiet, doubting}
use Rattle.bus_model.specs.Starts.{Entry, finishes, planned_at}
use Rattle.bus_model.specs.Attempts.{Begun, Ended, without_words, recorded, is_offer, kept_words}
use Rattle.bus_model.specs.Course.{gives}
use Rattle.bus_model.specs.Sending.{drive_sample}
use Rattle.bus_receiver.specs.Cuts.{cut_on}
use Rattle.bus_controller.specs.Agendas.{AgendaData, agenda_after, begun_by, is_due, is_unsettled, opens_after}
use Rattle.bus_receiver.specs.declared.receiver.Moment.{Moment}
use Rattle.bus_controller.specs.declared.opening.Opening.{Opening}
use Rattle.bus_controller.specs.declared.opening.Opening.TheVariants as openings
use Rattle.bus_controller.specs.declared.holding.Holding.{Holding}
use Rattle.bus_controller.specs.declared.sending.Sending.{Sending}
use Rattle.bus_controller.specs.declared.expecting.Expecting.{Expecting}
use Rattle.bus_controller.specs.declared.settling.Settling.{Settling}
use Rattle.bus_controller.specs.declared.doubting.Doubting.{Doubting}
use Rattle.bus_controller.specs.declared.yielded.Yielded.{Yielded}
use Rattle.bus_controller.specs.declared.states.ControllerState.{ControllerState}
use Rattle.bus_controller.specs.declared.states.ControllerState.TheVariants as states
use Rattle.bus_controller.specs.declared.states.ControllerEvent.TheVariants as events
use Rattle.bus_controller.specs.declared.states.ControllerNext.{ControllerNext}

abbrev pub going : ControllerState → ControllerNext
going state = record { state = state; event = events.Nothing }

-- ---- between messages

abbrev pub may_start : Holding → ℕ → Bool
may_start h now = is_due h.opening h.agenda h.quiet now

-- the command of an attempt begins
abbrev pub sends : AgendaData × Begun → Sending
sends (agenda, begun) = record {
  agenda = agenda;
  begun = begun;
  burst = record { items = command_words begun.entry.item.kind };
  sent = 0;
  quiet = 0;
}

-- the next attempt, where an item is left
abbrev pub starts_with : Holding → ℕ → Option Begun
starts_with h now = option_map (begun_by h.opening h.agenda now) (slice_get h.agenda.left 0)

abbrev pub begins_with : Holding → Option Begun → ControllerState
begins_with h None = states.Holding h
begins_with h (Some begun) = states.Sending (sends (h.agenda, begun))

abbrev pub begins : Holding → ℕ → ControllerState
begins h now = if may_start h now then begins_with h (starts_with h now) else states.Holding h

abbrev pub waits : AgendaData → Opening → ℕ → ℕ → ControllerState
waits agenda opening now quiet =
    if is_unsettled opening quiet then states.Settling record { agenda = agenda }
    else begins record { agenda = agenda; opening = opening; quiet = quiet } now

abbrev pub from_holding : Holding → Moment → ControllerNext
from_holding s m = going (waits s.agenda s.opening m.next.0 m.quiet)

abbrev pub from_settling : Settling → Moment → ControllerNext
from_settling s m = going (waits s.agenda (openings.Usual settling_quiet) m.next.0 m.quiet)

abbrev pub from_yielded : Yielded → ControllerNext
from_yielded s = going (states.Yielded s)

abbrev pub taken : Yielded → Tick → Holding
taken s first = record {
  agenda = record s.agenda { retry = None; origin = planned_at first.0 s.agenda.left };
  opening = openings.Taking first;
  quiet = 0;
}

-- ---- a message ends

abbrev pub goes_on : Bool → AgendaData → Opening → Moment → ControllerState
goes_on true agenda opening m = states.Yielded record { agenda = agenda }
goes_on false agenda opening m = waits agenda opening m.next.0 m.quiet

abbrev pub closes : AgendaData → Begun → Ended → Moment → ControllerNext
closes agenda begun ended m = record {
  state = goes_on (gives ended.outcome) (agenda_after agenda begun ended.outcome) (opens_after ended.outcome begun.state.channel) m;
  event = events.Ended (recorded 0 begun ended m.tick.0 (finishes (next_of begun.entry.item begun.state ended.outcome)));
}

-- ---- doubt

abbrev pub doubts_since : AgendaData → Begun → Tick → Moment → ℕ → ControllerNext
doubts_since agenda begun end m since =
    if nat_lt m.quiet since then closes agenda begun (without_words outcomes.Yielded None None) m
    else if since == doubting then closes agenda begun (without_words (outcomes.BadReply parts.First) None None) m
    else going (states.Doubting record { agenda = agenda; begun = begun; end = end })

abbrev pub doubts : AgendaData → Begun → Tick → Moment → ControllerNext
doubts agenda begun end m = doubts_since agenda begun end m (m.next.0 - end.0)

abbrev pub from_doubting : Doubting → Moment → ControllerNext
from_doubting s m = doubts s.agenda s.begun s.end m

-- ---- an answer

abbrev pub expects : ℕ → AgendaData → Begun → Option ℕ → Moment → Expecting
expects k agenda begun first m = record {
  agenda = agenda;
  begun = begun;
  first = first;
  end = record { 0 = m.tick.0 - k };
  answer = None;
}

abbrev pub heard_on : Begun → Moment → Sample
heard_on begun m = sample_on m.shown begun.state.channel

abbrev pub no_answer : Expecting → Option ℕ → Ended
no_answer s None = without_words (outcomes.NoResponse parts.First) None None
no_answer s (Some first) = without_words (outcomes.NoResponse parts.Second) (Some first) None

abbrev pub silent : Expecting → Moment → ControllerNext
silent s m =
    if nat_le (m.next.0 - s.end.0) no_response then going (states.Expecting s)
    else closes s.agenda s.begun (no_answer s s.first) m

abbrev pub abandons : Option ℕ → Option ℕ → ℕ → Bool
abandons None (Some ticks) since = since == ticks
abandons _ _ since = false

abbrev pub is_abandoned : Expecting → Moment → Bool
is_abandoned s m = not (is_quiet (heard_on s.begun m)) && abandons s.first s.begun.entry.item.abandon (m.next.0 - s.end.0)

abbrev pub runs_on : Expecting → List (Option Word) → Moment → ControllerNext
runs_on s slots m =
    if is_abandoned s m then closes s.agenda s.begun (without_words outcomes.Abandoned None None) m
    else going (states.Expecting (record s { answer = Some record { items = slots } }))

-- the first 34 slots are kept
abbrev pub kept : List (Option Word) → Option Word → List (Option Word)
kept slots word = take 34 (slots ++ word ∷ [])

-- a bad answer to an offer of control
abbrev pub is_doubtful : Bool → Outcome → Bool
is_doubtful true (outcomes.BadReply part) = true
is_doubtful offer outcome = false

module _ (k : ℕ) (agenda : AgendaData) (begun : Begun) where
  abbrev pub ends_first : Outcome → Option ℕ → Moment → ControllerNext
  ends_first outcome status m =
      if is_doubtful (is_offer begun.entry.item.kind) outcome then doubts agenda begun record { 0 = m.tick.0 - k } m
      else closes agenda begun (without_words outcome status None) m

  abbrev pub good_first : ℕ → List (Option Word) → Moment → Option Shape → ControllerNext
  good_first status slots m None =
      closes agenda begun record { outcome = outcomes.Clear; first = Some status; second = None; words = take 32 (kept_words begun.entry.item.kind slots) } m
  good_first status slots m (Some shape) = going (states.Expecting (expects k agenda begun (Some status) m))

  abbrev pub first_by : List (Option Word) → Moment → Reading → ControllerNext
  first_by slots m (readings.Good status) = good_first status slots m (answers_of begun.entry.item.kind).second
  first_by slots m (readings.Ends outcome status) = ends_first outcome status m

  abbrev pub first_read : List (Option Word) → ℕ → Moment → ControllerNext
  first_read slots rest m = first_by slots m (read_answer begun.entry.item.kind parts.First slots rest)

abbrev pub second_by : AgendaData → Begun → ℕ → Moment → Reading → ControllerNext
second_by agenda begun first m (readings.Good second) = closes agenda begun (without_words outcomes.Clear (Some first) (Some second)) m
second_by agenda begun first m (readings.Ends outcome second) = closes agenda begun (without_words outcome (Some first) second) m

abbrev pub second_read : AgendaData → Begun → ℕ → List (Option Word) → ℕ → Moment → ControllerNext
second_read agenda begun first slots rest m = second_by agenda begun first m (read_answer begun.entry.item.kind parts.Second slots rest)

abbrev pub read_by : ℕ → Expecting → List (Option Word) → ℕ → Moment → Option ℕ → ControllerNext
read_by k s slots rest m None = first_read k s.agenda s.begun slots rest m
read_by k s slots rest m (Some first) = second_read s.agenda s.begun first slots rest m

abbrev pub read : ℕ → Expecting → List (Option Word) → ℕ → Moment → ControllerNext
read k s slots rest m = read_by k s slots rest m s.first

abbrev pub cut_heard : ℕ → Expecting → List (Option Word) → Moment → Cut → ControllerNext
cut_heard k s slots m (cuts.Ended count rest) = read k s slots rest m
cut_heard k s slots m (cuts.Slot index word) = runs_on s (kept slots word) m
cut_heard k s slots m cuts.Nothing = runs_on s slots m

abbrev pub hears : ℕ → Expecting → Moment → Option (List (Option Word)) → ControllerNext
hears k s m None = if is_quiet (heard_on s.begun m) then silent s m else runs_on s [] m
hears k s m (Some slots) = cut_heard k s slots m (cut_on m.cuts s.begun.state.channel)

abbrev pub from_expecting : ℕ → Expecting → Moment → ControllerNext
from_expecting k s m = hears k (record s { answer = None }) m (option_map (λ slots. slots.items) s.answer)

-- ---- a command

abbrev pub quiet_more : ℕ → Sample → ℕ
quiet_more quiet x = if is_quiet x then min (quiet + 1) 255 else 0

abbrev pub ended_by : ℕ → AgendaData → Begun → Moment → Option Shape → ControllerNext
ended_by k agenda begun m None = closes agenda begun (without_words outcomes.Sent None None) m
ended_by k agenda begun m (Some shape) = going (states.Expecting (expects k agenda begun None m))

abbrev pub command_ended : ℕ → AgendaData → Begun → Moment → ControllerNext
command_ended k agenda begun m = ended_by k agenda begun m (answers_of begun.entry.item.kind).first

abbrev pub sends_on : ℕ → Sending → Moment → ℕ → ControllerNext
sends_on k s m quiet =
    if nat_le quiet k then going (states.Sending (record s { sent = min (s.sent + 1) 65535; quiet = quiet }))
    else command_ended k s.agenda s.begun m

abbrev pub from_sending : ℕ → Sending → Moment → ControllerNext
from_sending k s m = sends_on k s m (quiet_more s.quiet (heard_on s.begun m))

-- ---- all states

abbrev pub next_of_state : ℕ → ControllerState → Moment → ControllerNext
next_of_state k (states.Holding s) m = from_holding s m
next_of_state k (states.Sending s) m = from_sending k s m
next_of_state k (states.Expecting s) m = from_expecting k s m
next_of_state k (states.Settling s) m = from_settling s m
next_of_state k (states.Doubting s) m = from_doubting s m
next_of_state k (states.Yielded s) m = from_yielded s

abbrev pub driven_by : ControllerState → Drive
driven_by (states.Sending s) = drive_sample s.begun.state.channel parts.Command s.burst.items s.sent
driven_by _ = Silent

-- control is taken before this tick, after so many quiet ones
abbrev pub taken_by : ControllerState → Tick → ℕ → ℕ → ControllerState
taken_by (states.Yielded s) first next quiet = waits (taken s first).agenda (openings.Taking first) next quiet
taken_by s first next quiet = s

abbrev pub serves : ControllerState → Bool
serves (states.Yielded s) = true
serves _ = false

abbrev pub left_of : ControllerState → List Entry
left_of (states.Holding s) = s.agenda.left
left_of (states.Sending s) = s.agenda.left
left_of (states.Expecting s) = s.agenda.left
left_of (states.Settling s) = s.agenda.left
left_of (states.Doubting s) = s.agenda.left
left_of (states.Yielded s) = s.agenda.left
