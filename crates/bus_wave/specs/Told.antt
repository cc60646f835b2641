-- What each tick tells of the wave of a channel: marks at ticks that came before, and at itself.
use Rattle.std.specs.Prelude.{ℕ, ◌+◌, ◌-◌, ◌%◌, ◌==◌, Bool, true, false, ◌&&◌, if◌then◌else◌, List, [], ◌∷◌, ◌++◌, flat_map, length, Option, Some, None, is_none}
use Rattle.bus_base.specs.Samples.{is_quiet}
use Rattle.bus_base.specs.declared.samples.Part.{Part}
use Rattle.bus_base.specs.declared.samples.Part.TheVariants.{Second}
use Rattle.bus_base.specs.declared.samples.Sample.{Sample}
use Rattle.bus_words.specs.declared.word.Word.{Word}
use Rattle.bus_words.specs.declared.word.Sync.{Sync}
use Rattle.bus_words.specs.declared.word.Sync.TheVariants as syncs
use Rattle.bus_line.specs.Past.{Burst, Slot, runs, first_tick, stopped, end_of, rest_of, ended_now, slot_now}
use Rattle.bus_formats.specs.Forms.{first_command, second_command, answers_of}
use Rattle.bus_formats.specs.declared.form.Answers.{Answers}
use Rattle.bus_formats.specs.declared.form.Shape.{Shape}
use Rattle.bus_formats.specs.declared.form.Outcome.{Outcome}
use Rattle.bus_formats.specs.declared.form.Outcome.TheVariants.{BadReply, NoResponse}
use Rattle.bus_formats.specs.declared.plan.Kind.{Kind}
use Rattle.bus_monitor.specs.Messages.{Came, unknown, ended, Closed, Waiting, opening}
use Rattle.bus_monitor.specs.Listings.{running_on}
use Rattle.bus_monitor.specs.Awaited.{awaited, open_of}
use Rattle.bus_monitor.specs.Progress.{closed_now}
use Rattle.bus_wave.specs.declared.marks.Commands.{Commands}
use Rattle.bus_wave.specs.declared.marks.Mark.{Mark}
use Rattle.bus_wave.specs.declared.marks.Mark.TheVariants.{Message, Sender, Gap, Word as WordIs}
use Rattle.bus_wave.specs.declared.marks.MessageMark.{MessageMark}
use Rattle.bus_wave.specs.declared.marks.MessageMark.TheVariants as messages
use Rattle.bus_wave.specs.declared.marks.SenderMark.{SenderMark}
use Rattle.bus_wave.specs.declared.marks.SenderMark.TheVariants as senders
use Rattle.bus_wave.specs.declared.marks.WordMark.{WordMark}
use Rattle.bus_wave.specs.declared.marks.WordMark.TheVariants as words

-- a mark at a tick
pub record Told : Type 0 where
  pub tick : ℕ
  pub mark : Mark

abbrev pub told_at : ℕ → Mark → Told
told_at tick mark = record { tick = tick; mark = mark }

-- ---- what a message is drawn as

abbrev pub commands_in : Kind → Commands
commands_in kind = record { first = first_command kind; second = second_command kind }

-- a message that closed
abbrev pub closed_mark : Came → MessageMark
closed_mark unknown = messages.Unknown
closed_mark (ended kind outcome statuses) = messages.Ended (commands_in kind) outcome

-- one that waits for an answer: a bad reply, should that never end
abbrev pub waiting_mark : Waiting → MessageMark
waiting_mark w = messages.Ended (commands_in w.kind) (BadReply w.part)

-- one that is open at the end
abbrev pub open_mark : Option Waiting → MessageMark
open_mark None = messages.Open None
open_mark (Some w) = messages.Open (Some (commands_in w.kind))

-- whether it ended without an answer
abbrev pub is_no_response : Outcome → Bool
is_no_response (NoResponse part) = true
is_no_response _ = false

abbrev pub is_unanswered : Came → Bool
is_unanswered unknown = false
is_unanswered (ended kind outcome statuses) = is_no_response outcome

-- its last burst's end; where no answer came, the tick in which it closes
abbrev pub drawn_to : ℕ → Closed → ℕ
drawn_to k closed = if is_unanswered closed.came then closed.tick else closed.tick - k

abbrev pub told_closed : ℕ → Closed → List Told
told_closed k closed =
    told_at closed.first (Message (closed_mark closed.came)) ∷ told_at (drawn_to k closed) (Message messages.Nothing) ∷ []

-- ---- a burst begins: an answer of the terminal whose answer is awaited, or a message that isn't known yet

abbrev pub due : Part → Answers → Option Shape
due Second answers = answers.second
due _ answers = answers.first

abbrev pub terminal_of : Option Shape → SenderMark
terminal_of None = senders.Unknown
terminal_of (Some shape) = senders.Terminal shape.address

abbrev pub gap_told : ℕ → Option ℕ → List Told
gap_told tick None = []
gap_told tick (Some quiet) = told_at tick (Gap quiet) ∷ []

-- the gap of an answer is that of its own channel, of a message that of both
abbrev pub told_begin : Option ℕ → ℕ → Option Waiting → List Told
told_begin gap tick None =
    told_at tick (Message messages.Unknown) ∷ told_at tick (Sender senders.Unknown) ∷ gap_told tick gap
told_begin gap tick (Some w) =
    told_at tick (Sender (terminal_of (due w.part (answers_of w.kind)))) ∷ told_at tick (Gap (tick - w.from)) ∷ []

-- ---- a slot ends

abbrev pub sync_mark : Bool → Sync → ℕ → WordMark
sync_mark opens syncs.Command bits = if opens then words.Command bits else words.Other bits
sync_mark opens syncs.Datum bits = words.Datum bits

-- a word with command sync that begins a message is a command
abbrev pub slot_mark : Bool → Option Word → WordMark
slot_mark opens None = words.Bad
slot_mark opens (Some word) = sync_mark opens word.sync word.bits

abbrev pub told_slot : Bool → Slot → List Told
told_slot opens slot = told_at slot.first (WordIs (slot_mark opens slot.word)) ∷ []

-- ---- a burst ends

-- ticks after the last whole slot are no word
abbrev pub told_rest : ℕ → ℕ → List Told
told_rest end rest = if rest == 0 then [] else told_at (end - rest) (WordIs words.Bad) ∷ []

abbrev pub told_stop : ℕ → ℕ → List Told
told_stop end rest = told_rest end rest ++ told_at end (WordIs words.Nothing) ∷ told_at end (Sender senders.Nobody) ∷ []

-- a relay's second command
abbrev pub told_second : ℕ → Option ℕ → List Told
told_second first None = []
told_second first (Some command) = told_at (first + 40) (WordIs (words.Command command)) ∷ []

-- a message of a known form is the controller's
abbrev pub told_opening : ℕ → Option Kind → List Told
told_opening first None = []
told_opening first (Some kind) = told_at first (Sender senders.Controller) ∷ told_second first (second_command kind)

abbrev pub told_sender : ℕ → Option Waiting → Burst → List Told
told_sender k None burst = told_opening burst.first (opening k burst)
told_sender k (Some w) burst = []

abbrev pub told_waiting : Option Waiting → List Told
told_waiting None = []
told_waiting (Some w) = told_at w.first (Message (waiting_mark w)) ∷ []

-- ---- one tick

module _ (k : ℕ) (gap : Option ℕ) (x : Sample) (past : List Sample) where
  -- no burst ran: a tick that isn't quiet begins one, and a quiet one may be the last of the time for an answer
  abbrev pub told_alone : List Told
  told_alone =
      if runs k past then []
      else if is_quiet x then flat_map (told_closed k) (closed_now k (x ∷ past))
      else told_begin gap (length past) (awaited k past)

  abbrev pub told_end : Burst → List Told
  told_end burst =
      ((told_stop (end_of burst) (rest_of burst) ++ told_sender k (awaited k past) burst)
      ++ flat_map (told_closed k) (closed_now k (x ∷ past))) ++ told_waiting (awaited k (x ∷ past))

  abbrev pub told_by : Option Burst → Option Slot → List Told
  told_by (Some burst) slot = told_end burst
  told_by None (Some slot) = told_slot ((slot.first == first_tick k (x ∷ past)) && is_none (awaited k past)) slot
  told_by None None = told_alone

  -- what the newest tick tells, where so many ticks before it were quiet on both channels, if any was not
  abbrev pub told_now : List Told
  told_now = told_by (ended_now k (x ∷ past)) (slot_now k (x ∷ past))

-- ---- the end of the capture

-- where the message that is open is drawn to: the end of the burst that runs, or of the last one
abbrev pub open_to : ℕ → Option ℕ → Option Waiting → ℕ
open_to stop None (Some w) = w.from
open_to stop running w = stop

abbrev pub told_open : ℕ → Option ℕ → Option Waiting → Option ℕ → List Told
told_open stop running w None = []
told_open stop running w (Some first) =
    told_at first (Message (open_mark w)) ∷ told_at (open_to stop running w) (Message messages.Nothing) ∷ []

abbrev pub told_running_to : Option ℕ → ℕ → List Told
told_running_to None stop = []
told_running_to (Some first) stop = told_stop stop ((stop - first) % 40)

-- what the end tells: of the burst that runs, and of the message that is open
abbrev pub told_to : ℕ → Option ℕ → Option Waiting → List Told
told_to stop running w = told_running_to running stop ++ told_open stop running w (open_of running w)

abbrev pub told_last : ℕ → List Sample → List Told
told_last k past = told_to (stopped past) (running_on k past) (awaited k past)
