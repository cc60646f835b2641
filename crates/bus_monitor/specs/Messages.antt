-- The messages on one channel, over its whole bursts, the first first (bus monitor 4.4.4, message formats 4.3.3.6).
use Rattle.std.specs.Prelude.{ℕ, zero, ◌+◌, Bool, true, false, not, ◌&&◌, ◌==◌, nat_lt, nat_le, if◌then◌else◌, List, [], ◌∷◌, ◌++◌, Option, Some, None, is_some, option_to_list}
use Rattle.bus_base.specs.declared.samples.Part.{Part}
use Rattle.bus_base.specs.declared.samples.Part.TheVariants.{First, Second}
use Rattle.bus_words.specs.Fields.{address_of, is_transmit, sub_of, field_of, is_broadcast, is_mode, word_count}
use Rattle.bus_words.specs.declared.word.Word.{Word}
use Rattle.bus_line.specs.Past.{Burst, end_of, rest_of}
use Rattle.bus_formats.specs.Forms.{form_of, is_second_command, answers_of}
use Rattle.bus_formats.specs.Readings.{command_in, datum_in, data_in, read_answer}
use Rattle.bus_formats.specs.Times.{no_response}
use Rattle.bus_formats.specs.declared.form.Outcome.{Outcome}
use Rattle.bus_formats.specs.declared.form.Outcome.TheVariants.{Clear, Sent, NoResponse}
use Rattle.bus_formats.specs.declared.form.Reading.{Reading}
use Rattle.bus_formats.specs.declared.form.Reading.TheVariants.{Good, Ends}
use Rattle.bus_formats.specs.declared.plan.Kind.{Kind}
use Rattle.bus_formats.specs.declared.plan.Kind.TheVariants.{Receive, Transmit, Relay, Mode}

-- ---- which message a burst opens: the one whose command burst its slots are, without a rest

abbrev pub with_form : Kind → Option Kind
with_form kind = if is_some (form_of kind) then Some kind else None

abbrev pub mode_kind : ℕ → Option ℕ → Option Kind
mode_kind command word =
    with_form (Mode (address_of command) (sub_of command) (is_transmit command) (field_of command) word)

abbrev pub mode_with : ℕ → Option ℕ → Option Kind
mode_with command (Some word) = mode_kind command (Some word)
mode_with command None = None

abbrev pub mode_message : ℕ → List (Option Word) → Option Kind
mode_message command [] = mode_kind command None
mode_message command (slot ∷ []) = mode_with command (datum_in slot)
mode_message command _ = None

abbrev pub transmit_message : ℕ → List (Option Word) → Option Kind
transmit_message command [] =
    if is_broadcast command then None else Some (Transmit (address_of command) (sub_of command) (word_count command))
transmit_message command _ = None

-- a relay's two commands name the same count and different terminals (4.3.3.6.3)
abbrev pub relay_with : ℕ → Option ℕ → Option Kind
relay_with command None = None
relay_with command (Some second) =
    if is_second_command command second && not (address_of second == address_of command)
    then Some (Relay (address_of second) (sub_of second) (address_of command) (sub_of command) (word_count command))
    else None

abbrev pub relay_message : ℕ → List (Option Word) → Option Kind
relay_message command (slot ∷ []) = relay_with command (command_in slot)
relay_message command _ = None

abbrev pub receive_message : ℕ → List (Option Word) → Option (List ℕ) → Option Kind
receive_message command slots (Some words) = Some (Receive (address_of command) (sub_of command) words)
receive_message command slots None = relay_message command slots

abbrev pub command_message : Option ℕ → List (Option Word) → Option Kind
command_message None slots = None
command_message (Some command) slots =
    if is_mode command then mode_message command slots
    else if is_transmit command then transmit_message command slots
    else receive_message command slots (data_in (word_count command) slots)

abbrev pub message_of : List (Option Word) → ℕ → Option Kind
message_of (slot ∷ slots) zero = command_message (command_in slot) slots
message_of _ _ = None

-- ---- messages

-- what a message came to: it is of no known form; or it ended so, with the statuses that are kept
pub data Came : Type 0 where
  unknown : Came
  ended : Kind → Outcome → List ℕ → Came

-- a message: its first tick, the tick in which it closes, and what it came to
pub record Closed : Type 0 where
  pub first : ℕ
  pub tick : ℕ
  pub came : Came

-- a message that waits for an answer, from the end of the burst before: its first tick, and the statuses so far
pub record Waiting : Type 0 where
  pub first : ℕ
  pub kind : Kind
  pub part : Part
  pub from : ℕ
  pub statuses : List ℕ

abbrev pub closed_so : Waiting → ℕ → Outcome → List ℕ → List Closed
closed_so w tick outcome statuses =
    record { first = w.first; tick = tick; came = ended w.kind outcome statuses } ∷ []

abbrev pub unanswered : Waiting → List Closed
unanswered w = closed_so w (w.from + no_response) (NoResponse w.part) w.statuses

-- whether a second answer follows a good one
abbrev pub is_first : Part → Bool
is_first First = true
is_first _ = false

abbrev pub waits_on : Waiting → Bool
waits_on w = is_first w.part && is_some (answers_of w.kind).second

module _ (k : ℕ) where
  -- ---- a burst that opens a message

  abbrev pub opened : Burst → Option Kind → List Closed
  opened burst None = record { first = burst.first; tick = end_of burst + k; came = unknown } ∷ []
  opened burst (Some kind) =
      if is_some (answers_of kind).first then []
      else record { first = burst.first; tick = end_of burst + k; came = ended kind Sent [] } ∷ []

  abbrev pub opens : Burst → Option Kind → Option Waiting
  opens burst None = None
  opens burst (Some kind) =
      if is_some (answers_of kind).first
      then Some record { first = burst.first; kind = kind; part = First; from = end_of burst; statuses = [] }
      else None

  -- ---- a burst that is an answer

  abbrev pub closed_by : Waiting → ℕ → Reading → List Closed
  closed_by w end (Good status) =
      if waits_on w then [] else closed_so w (end + k) Clear (w.statuses ++ status ∷ [])
  closed_by w end (Ends outcome status) = closed_so w (end + k) outcome (w.statuses ++ option_to_list status)

  abbrev pub waits_after : Waiting → ℕ → Reading → Option Waiting
  waits_after w end (Good status) =
      if waits_on w then Some record w { part = Second; from = end; statuses = w.statuses ++ status ∷ [] } else None
  waits_after w end (Ends outcome status) = None

  abbrev pub answer_read : Waiting → Burst → Reading
  answer_read w burst = read_answer w.kind w.part burst.slots (rest_of burst)

  -- ---- one burst after the other

  abbrev pub is_answer : Waiting → ℕ → Bool
  is_answer w first = nat_le first (w.from + no_response)

  abbrev pub opening : Burst → Option Kind
  opening burst = message_of burst.slots (rest_of burst)

  -- the messages that a burst closes, where this one waits for an answer; and the one that waits after it
  abbrev pub closes : Option Waiting → Burst → List Closed
  closes None burst = opened burst (opening burst)
  closes (Some w) burst =
      if is_answer w burst.first then closed_by w (end_of burst) (answer_read w burst)
      else unanswered w ++ opened burst (opening burst)

  abbrev pub waits : Option Waiting → Burst → Option Waiting
  waits None burst = opens burst (opening burst)
  waits (Some w) burst =
      if is_answer w burst.first then waits_after w (end_of burst) (answer_read w burst) else opens burst (opening burst)

  -- ---- all bursts of a channel

  -- the first tick of a burst whose end isn't known, if there is one, and the number of ticks
  module _ (running : Option ℕ) (ticks : ℕ) where
    abbrev pub answered_late : Waiting → Option ℕ → Bool
    answered_late w None = nat_lt (w.from + no_response) ticks
    answered_late w (Some first) = not (is_answer w first)

    -- at the end a message that waits is open, or was not answered
    abbrev pub closed_at_end : Option Waiting → List Closed
    closed_at_end None = []
    closed_at_end (Some w) = if answered_late w running then unanswered w else []

    abbrev pub open_at_end : Option Waiting → Option ℕ
    open_at_end None = running
    open_at_end (Some w) = if answered_late w running then running else Some w.first

    -- the messages that close, after one that waits, in the order in which they close
    unfoldable pub messages : Option Waiting → List Burst → List Closed
    messages w [] = closed_at_end w
    messages w (burst ∷ bursts) = closes w burst ++ messages (waits w burst) bursts

    -- the first tick of the message that is still open, if there is one
    unfoldable pub open_message : Option Waiting → List Burst → Option ℕ
    open_message w [] = open_at_end w
    open_message w (burst ∷ bursts) = open_message (waits w burst) bursts
