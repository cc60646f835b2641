-- How a message ends: the outcome, what is kept, and when (no-response time-out 4.3.3.9, dynamic bus control 4.3.3.5.1.7.1;
-- abandoned messages and doubt are the project's own). The end of a burst is known k ticks after it.
use Rattle.std.specs.Prelude.{ℕ, ◌+◌, ◌-◌, Bool, true, false, not, ◌&&◌, nat_le, if◌then◌else◌, Option, Some, None}
use Rattle.bus_base.specs.declared.samples.Part.TheVariants.{First, Second}
use Rattle.bus_formats.specs.Forms.{answers_of}
use Rattle.bus_formats.specs.Plans.{ItemData}
use Rattle.bus_formats.specs.Readings.{read_answer}
use Rattle.bus_formats.specs.Times.{no_response}
use Rattle.bus_formats.specs.declared.form.Shape.{Shape}
use Rattle.bus_formats.specs.declared.form.Outcome.{Outcome}
use Rattle.bus_formats.specs.declared.form.Outcome.TheVariants.{Clear, Sent, Passed, NoResponse, BadReply, Abandoned, Yielded}
use Rattle.bus_formats.specs.declared.form.Reading.{Reading}
use Rattle.bus_formats.specs.declared.form.Reading.TheVariants.{Good, Ends}
use Rattle.bus_formats.specs.declared.plan.Kind.{Kind}
use Rattle.bus_formats.specs.Times.{doubting, taking_over}
use Rattle.bus_model.specs.Attempts.{Ended, without_words, is_offer, kept_words}
use Rattle.bus_model.specs.Strikes.{burst_end, ShownAnswer, is_faded}

-- control passes to a station, whose first command starts in this tick
pub record Passing : Type 0 where
  pub address : ℕ
  pub tick : ℕ

-- an ending: how the message ended, and in which tick; an answer that runs on; and whether control passes
pub record Ending : Type 0 where
  pub ended : Ended
  pub tick : ℕ
  pub runs_on : Option ShownAnswer
  pub passes : Option Passing

abbrev pub ends_so : Ended → ℕ → Ending
ends_so ended tick = record { ended = ended; tick = tick; runs_on = None; passes = None }

abbrev pub ends : Outcome → Option ℕ → Option ℕ → ℕ → Ending
ends outcome first second tick = ends_so (without_words outcome first second) tick

abbrev pub abandoned : ℕ → ShownAnswer → Ending
abandoned tick answer = record (ends Abandoned None None tick) { runs_on = Some answer }

abbrev pub passed : Outcome → Option ℕ → ℕ → ShownAnswer → Ending
passed outcome status tick answer = record (ends outcome status None tick) {
  passes = Some record { address = answer.sent.address; tick = burst_end answer.burst + taking_over };
}

module _ (k : ℕ) (kind : Kind) where
  -- ---- a relay's second answer

  abbrev pub second_read : ℕ → ℕ → Reading → Ending
  second_read status end (Good second) = ends Clear (Some status) (Some second) (end + k)
  second_read status end (Ends outcome second) = ends outcome (Some status) second (end + k)

  -- the wait for the second answer, counted from the end of the first, which was good
  abbrev pub second_ending : ℕ → ℕ → Option ShownAnswer → Ending
  second_ending status end None = ends (NoResponse Second) (Some status) None (end + no_response)
  second_ending status end (Some second) =
      second_read status (burst_end second.burst) (read_answer kind Second second.burst.slots second.burst.rest)

  -- ---- the first answer

  -- a good answer ends the message, unless a second one is expected
  abbrev pub good_ending : ℕ → ShownAnswer → Option ShownAnswer → Option Shape → Ending
  good_ending status first second (Some shape) = second_ending status (burst_end first.burst) second
  good_ending status first second None =
      ends_so (record (without_words Clear (Some status) None) { words = kept_words kind first.burst.slots })
      (burst_end first.burst + k)

  -- an offer that was answered badly: where the answer accepts, its terminal takes control, and the offerer hears that;
  -- else all is quiet
  abbrev pub doubt_ending : ShownAnswer → Bool → Ending
  doubt_ending first true = passed Yielded None (burst_end first.burst + taking_over) first
  doubt_ending first false = ends (BadReply First) None None (burst_end first.burst + doubting - 1)

  -- an answer that ends its message, by whether the message offers control
  abbrev pub read_ending : ShownAnswer → Bool → Outcome → Option ℕ → Ending
  read_ending first offer Passed status = passed Passed status (burst_end first.burst + k) first
  read_ending first true (BadReply part) status = doubt_ending first first.sent.acceptance
  read_ending first offer outcome status = ends outcome status None (burst_end first.burst + k)

  abbrev pub first_read : ShownAnswer → Option ShownAnswer → Reading → Ending
  first_read first second (Good status) = good_ending status first second (answers_of kind).second
  first_read first second (Ends outcome status) = read_ending first (is_offer kind) outcome status

  -- the tick in which a message is abandoned: the last of so many ticks after the command's end, where a sample of the
  -- answer is heard in it
  abbrev pub abandoned_at : Option ℕ → ℕ → ShownAnswer → Option ℕ
  abandoned_at None end first = None
  abandoned_at (Some n) end first =
      if nat_le (end + n) (burst_end first.burst) && not (is_faded first (end + n - 1 - first.burst.start))
      then Some (end + n - 1) else None

  abbrev pub heard_ending : ShownAnswer → Option ShownAnswer → Option ℕ → Ending
  heard_ending first second (Some tick) = abandoned tick first
  heard_ending first second None =
      first_read first second (read_answer kind First first.burst.slots first.burst.rest)

  -- the wait for the first answer, counted from the end of the command
  abbrev pub first_ending : Option ℕ → ℕ → Option ShownAnswer → Option ShownAnswer → Ending
  first_ending abandon end None second = ends (NoResponse First) None None (end + no_response)
  first_ending abandon end (Some first) second = heard_ending first second (abandoned_at abandon end first)

  -- a message that expects no answer ends when it was sent
  abbrev pub ending_by : Option ℕ → ℕ → Option ShownAnswer → Option ShownAnswer → Option Shape → Ending
  ending_by abandon end first second None = ends Sent None None (end + k)
  ending_by abandon end first second (Some shape) = first_ending abandon end first second

-- how a message ends, by the end of its command and what is shown of its answers
abbrev pub ending_of : ℕ → ItemData → ℕ → Option ShownAnswer → Option ShownAnswer → Ending
ending_of k item end first second =
    ending_by k item.kind item.abandon end first second (answers_of item.kind).first
