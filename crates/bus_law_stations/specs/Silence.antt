-- Quiet ticks, and the premises under which they change nothing of a station: no burst runs, and nothing is due.
use Rattle.std.specs.Prelude.{◌≡◌, ◌⊎◌, ℕ, zero, suc, ◌+◌, ◌<◌, ◌≤◌, Bool, true, false, List, [], ◌∷◌, ◌++◌, length, Some, None}
use Rattle.bus_base.specs.Samples.{quiet_pair, quiet_pairs}
use Rattle.bus_base.specs.declared.samples.Sample.{Sample}
use Rattle.bus_base.specs.declared.samples.Sample.TheVariants.{Quiet}
use Rattle.bus_base.specs.declared.samples.Part.TheVariants.{First}
use Rattle.bus_base.specs.declared.samples.Channel.TheVariants.{A, B}
use Rattle.bus_base.specs.declared.samples.Pair.{Pair}
use Rattle.bus_line.specs.Past.{Burst, end_of, rest_of, runs, first_heard, end_since}
use Rattle.bus_line.specs.Channels.{on_channel}
use Rattle.bus_formats.specs.Forms.{answers_of}
use Rattle.bus_formats.specs.Plans.{TerminalData, StationData}
use Rattle.bus_formats.specs.Times.{no_response}
use Rattle.bus_formats.specs.Readings.{read_answer}
use Rattle.bus_formats.specs.declared.form.Reading.TheVariants.{Good}
use Rattle.bus_formats.specs.declared.form.Shape.{Shape}
use Rattle.bus_formats.specs.Times.{relay_wait}
use Rattle.bus_model.specs.Memory.{TimedLoad}
use Rattle.bus_model.specs.Orders.{due_after}
use Rattle.bus_model.specs.Hearing.{Moment, heard_on}
use Rattle.bus_model.specs.Standing.{Standing, is_owed, promised_on}
use Rattle.bus_model.specs.Terminal.{given_up, is_over, standing_after}
use Rattle.bus_model.specs.Starts.{Entry, start_of}
use Rattle.bus_model.specs.Attempts.{Begun}
use Rattle.bus_model.specs.Controller.{reply, whole}
use Rattle.bus_model.specs.Course.{Take, Course, quiet_from}
use Rattle.bus_model.specs.Control.{OutsideTake, StationSoFar, outside_takes, course_after, hearing_after}

-- quiet ticks as a terminal hears them: in each its station has items left or not
abbrev pub quiet_moments : List Bool → List Moment
quiet_moments [] = []
quiet_moments (may ∷ mays) = record { shown = quiet_pair; has_items = may } ∷ quiet_moments mays

-- ---- a terminal

-- a terminal of which nothing is due in the next n ticks: s stands of it, after the ticks that it heard
pub record NothingDue (k : ℕ) (terminal : TerminalData) (s : Standing) (heard : List Moment) (n : ℕ) : Type 0 where
  -- no burst runs on A, nor on B
  pub rests_a : runs k (heard_on A heard) ≡ false
  pub rests_b : runs k (heard_on B heard) ≡ false
  -- an answer that it owes is due after these ticks, or was given up, or is over
  pub answer : is_owed s.duty ≡ true →
      (length heard + n ≤ due_after terminal s.end)
      ⊎ ((given_up k terminal (heard_on s.channel heard) s ≡ true) ⊎ (is_over k terminal (heard_on s.channel heard) s ≡ true))
  -- a promise that stands runs out after these ticks, or did before them
  pub promise : promised_on k s s.channel ≡ true → (length heard + n ≤ s.end + relay_wait) ⊎ (s.end + relay_wait < length heard)

-- ---- a controller

-- a message waits for its first answer: its command's burst ended in tick e, and nothing was heard on its channel since; past is that channel's
pub record AwaitsFirst (k : ℕ) (begun : Begun) (past : List Sample) (e : ℕ) : Type 0 where
  -- the end of its command is known
  pub ended : end_since k past begun.start ≡ Some e
  -- it expects an answer
  pub shape : Shape
  pub expects : (answers_of begun.entry.item.kind).first ≡ Some shape
  -- none has begun
  pub silent : first_heard past e ≡ None

-- a relay waits for its second answer: the first one was good, its burst ended in tick e, and nothing was heard since
pub record AwaitsSecond (k : ℕ) (begun : Begun) (past : List Sample) (e : ℕ) : Type 0 where
  -- the end of its command is known
  pub command_end : ℕ
  pub ended : end_since k past begun.start ≡ Some command_end
  -- it expects two answers
  pub first : Shape
  pub second : Shape
  pub expects_first : (answers_of begun.entry.item.kind).first ≡ Some first
  pub expects_second : (answers_of begun.entry.item.kind).second ≡ Some second
  -- the first answer was heard whole, ended in tick e, and is good
  pub burst : Burst
  pub status : ℕ
  pub answered : reply k past command_end ≡ whole burst
  pub good : read_answer begun.entry.item.kind First burst.slots (rest_of burst) ≡ Good status
  pub end : end_of burst ≡ e
  -- the second one hasn't begun
  pub silent : first_heard past e ≡ None

-- a controller of which nothing is due in the next n ticks: c is its course, after what the channels showed
pub record NothingStarts (k : ℕ) (c : Course) (past : List Pair) (n : ℕ) : Type 0 where
  -- the message that runs, if any, waits for an answer, which would count after these ticks too
  pub waits : (begun : Begun) → c.runs ≡ Some begun → (e : ℕ)
      × (AwaitsFirst k begun (on_channel begun.state.channel past) e ⊎ AwaitsSecond k begun (on_channel begun.state.channel past) e)
      × (length past + n ≤ e + no_response)
  -- if none runs and it holds control, its next one starts after these ticks
  pub starts : c.runs ≡ None → c.holds ≡ true → (entry : Entry) (later : List Entry) → c.left ≡ entry ∷ later →
      length past + n ≤ start_of c.opening c.retry c.origin entry (quiet_from past)

-- no control is taken later than in the ticks heard
abbrev pub AreTaken : ℕ → List Take → Type 0
AreTaken heard [] = Unit {0}
AreTaken heard (take ∷ takes) = (take.heard ≤ heard) × AreTaken heard takes

-- ---- a station

-- a station of which nothing is due in the next n ticks
pub record StationRests (k : ℕ) (station : StationData) (starts : Bool) (loads : List TimedLoad) (outside : List OutsideTake) (past : List Pair)
    (n : ℕ) : Type 0 where
  -- neither of its controller, nor of its terminal
  pub controller : NothingStarts k (course_after k station starts loads outside past) past n
  pub terminal : NothingDue k station.terminal (standing_after k station.terminal loads (hearing_after k station starts loads outside past))
      (hearing_after k station starts loads outside past).ticks n
  -- and it doesn't take control by itself in them
  pub serves : (t : ℕ) → length past ≤ t → t < length past + n → outside_takes k station starts loads outside t outside ≡ []

-- a station that heard further quiet ticks, and is as it was
abbrev pub heard_more : StationSoFar → List Bool → StationSoFar
heard_more before mays = record before { hearing = record before.hearing { ticks = quiet_moments mays ++ before.hearing.ticks } }
