-- A bus controller over all that it heard: its attempts, how each ended, and what it sends (MIL-STD-1553B 4.4.2).
use Rattle.std.specs.Prelude.{ℕ, ◌+◌, ◌-◌, Bool, true, false, ◌&&◌, ◌==◌, nat_lt, if◌then◌else◌, List, length, Option, Some, None}
use Rattle.bus_base.specs.declared.samples.Sample.{Sample}
use Rattle.bus_base.specs.declared.samples.Pair.{Pair}
use Rattle.bus_base.specs.declared.samples.Part.TheVariants.{Command, First, Second}
use Rattle.bus_base.specs.declared.samples.Drive.{Drive}
use Rattle.bus_base.specs.declared.samples.Drive.TheVariants.{Silent}
use Rattle.bus_line.specs.Past.{quiet, first_heard, end_since, Burst, burst_from, end_of, rest_of}
use Rattle.bus_line.specs.Channels.{on_channel, quiet_both}
use Rattle.bus_formats.specs.Forms.{command_words, answers_of}
use Rattle.bus_formats.specs.Plans.{ItemData}
use Rattle.bus_formats.specs.Readings.{read_answer}
use Rattle.bus_formats.specs.Times.{no_response}
use Rattle.bus_formats.specs.declared.form.Shape.{Shape}
use Rattle.bus_formats.specs.declared.form.Outcome.{Outcome}
use Rattle.bus_formats.specs.declared.form.Outcome.TheVariants.{Clear, Sent, NoResponse, BadReply, Abandoned, Yielded}
use Rattle.bus_formats.specs.declared.form.Reading.{Reading}
use Rattle.bus_formats.specs.declared.form.Reading.TheVariants.{Good, Ends}
use Rattle.bus_formats.specs.Times.{doubting}
use Rattle.bus_model.specs.Attempts.{Begun, Ended, without_words, is_offer, kept_words}
use Rattle.bus_model.specs.Sending.{drive_sample}

-- ---- one attempt

abbrev pub ended_so : Outcome → Option ℕ → Option ℕ → Option Ended
ended_so outcome first second = Some (without_words outcome first second)

-- what is heard of an answer: nothing, and none will count; nothing yet; it runs; or the whole burst
pub data Reply : Type 0 where
  silence : Reply
  awaited : Reply
  running : Reply
  whole : Burst → Reply

module _ (k : ℕ) (past : List Sample) where
  -- a message of which this burst ended at tick e waits for an answer, which begins in one of the ticks e to e + 24 (4.3.3.9)
  abbrev pub reply_until : ℕ → Option ℕ → Reply
  reply_until a None = running
  reply_until a (Some x) = whole (burst_from past a (x - a))

  abbrev pub reply_from : ℕ → Option ℕ → Reply
  reply_from e None = if nat_lt (e + no_response) (length past) then silence else awaited
  reply_from e (Some a) = if nat_lt (e + no_response) a then silence else reply_until a (end_since k past a)

  abbrev pub reply : ℕ → Reply
  reply e = reply_from e (first_heard past e)

-- how a message of this kind and channel ends in the newest tick, where it hasn't ended before; what both channels showed
module _ (k : ℕ) (item : ItemData) (shown : List Pair) (past : List Sample) where
  abbrev pub second_read : ℕ → Reading → Option Ended
  second_read first (Good second) = ended_so Clear (Some first) (Some second)
  second_read first (Ends outcome second) = ended_so outcome (Some first) second

  -- a relay's second answer
  abbrev pub second_ending : ℕ → Reply → Option Ended
  second_ending first silence = ended_so (NoResponse Second) (Some first) None
  second_ending first (whole burst) = second_read first (read_answer item.kind Second burst.slots (rest_of burst))
  second_ending first _ = None

  -- after a good first answer the message ends, or waits for the second, from the end of the first
  abbrev pub good_ending : ℕ → Burst → Option Shape → Option Ended
  good_ending status burst None =
      Some record { outcome = Clear; first = Some status; second = None; words = kept_words item.kind burst.slots }
  good_ending status burst (Some shape) = second_ending status (reply k past (end_of burst))

  -- an offerer doubts after a bad answer with end x: it keeps control where both channels are quiet in the ticks x to x + 79, and
  -- yields at the first sample
  abbrev pub doubt_ending : ℕ → Option Ended
  doubt_ending x =
      if nat_lt (x + quiet_both shown) (length shown) then ended_so Yielded None None
      else if length shown == x + doubting then ended_so (BadReply First) None None
      else None

  abbrev pub read_ending : Burst → Bool → Outcome → Option ℕ → Option Ended
  read_ending burst true (BadReply part) status = doubt_ending (end_of burst)
  read_ending burst offer outcome status = ended_so outcome status None

  abbrev pub first_read : Burst → Reading → Option Ended
  first_read burst (Good status) = good_ending status burst (answers_of item.kind).second
  first_read burst (Ends outcome status) = read_ending burst (is_offer item.kind) outcome status

  -- a running answer is abandoned in the last of so many ticks after the command's end, if its channel isn't quiet there
  abbrev pub abandon_ending : ℕ → Option ℕ → Option Ended
  abandon_ending e None = None
  abandon_ending e (Some n) = if (length past == e + n) && (quiet past == 0) then ended_so Abandoned None None else None

  abbrev pub first_ending : ℕ → Reply → Option Ended
  first_ending e silence = ended_so (NoResponse First) None None
  first_ending e awaited = None
  first_ending e running = abandon_ending e item.abandon
  first_ending e (whole burst) = first_read burst (read_answer item.kind First burst.slots (rest_of burst))

  -- a message without an answer ends when it was sent
  abbrev pub command_ending : ℕ → Option Shape → Option Ended
  command_ending e None = ended_so Sent None None
  command_ending e (Some shape) = first_ending e (reply k past e)

  abbrev pub ending_after : Option ℕ → Option Ended
  ending_after None = None
  ending_after (Some e) = command_ending e (answers_of item.kind).first

  abbrev pub ending_from : ℕ → Option Ended
  ending_from start = ending_after (end_since k past start)

abbrev pub ending_now : ℕ → Begun → List Pair → Option Ended
ending_now k begun shown = ending_from k begun.entry.item shown (on_channel begun.state.channel shown) begun.start

-- the command is sent whole, unless its channel was quiet k + 1 ticks in a row (transmission continuity, 4.4.1.2)
abbrev pub drive_command : Begun → List Sample → Option ℕ → Drive
drive_command begun past None =
    drive_sample begun.state.channel Command (command_words begun.entry.item.kind) (length past - begun.start)
drive_command begun past (Some end) = Silent

-- ---- doubt

abbrev pub is_bad : Reading → Bool
is_bad (Ends (BadReply part) status) = true
is_bad _ = false

abbrev pub is_bad_reply : ItemData → Reply → Bool
is_bad_reply item (whole burst) = is_bad (read_answer item.kind First burst.slots (rest_of burst))
is_bad_reply item _ = false

abbrev pub is_bad_after : ℕ → ItemData → List Sample → Option ℕ → Bool
is_bad_after k item past None = false
is_bad_after k item past (Some e) = is_bad_reply item (reply k past e)

-- the station doubts while its offer was answered badly and the message hasn't ended
abbrev pub doubts_of : ℕ → List Sample → Begun → Bool
doubts_of k past begun =
    is_offer begun.entry.item.kind && is_bad_after k begun.entry.item past (end_since k past begun.start)
