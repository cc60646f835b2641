-- One answer of a message: how it begins, what the station in control makes of it, and how it is over.
use Rattle.std.specs.Prelude.{◌≡◌, ◌≢◌, ℕ, suc, ◌+◌, ◌<◌, ◌≤◌, true, false, List, [], ◌∷◌, ◌++◌, map, length, Some, None}
use Rattle.bus_base.specs.declared.samples.Channel.{Channel}
use Rattle.bus_base.specs.declared.samples.Drive.TheVariants.{Silent}
use Rattle.bus_base.specs.declared.samples.Pair.{Pair}
use Rattle.bus_base.specs.declared.samples.Part.{Part}
use Rattle.bus_base.specs.declared.samples.Part.TheVariants.{Command, Second}
use Rattle.bus_words.specs.Fields.{address_of}
use Rattle.bus_words.specs.declared.word.Word.{Word}
use Rattle.bus_line.specs.Past.{Burst, runs, end_of, ended_now}
use Rattle.bus_line.specs.Channels.{on_channel, quiet_both}
use Rattle.bus_formats.specs.Accepted.{AreWords}
use Rattle.bus_formats.specs.Plans.{StationData}
use Rattle.bus_formats.specs.declared.fault.Hit.{Hit}
use Rattle.bus_formats.specs.declared.log.Attempt.{Attempt}
use Rattle.bus_model.specs.Attempts.{Begun}
use Rattle.bus_model.specs.Control.{drives_next}
use Rattle.bus_model.specs.Course.{Course, quiet_from}
use Rattle.bus_model.specs.Message.{After, after_answer, answer_to, blocks_taken}
use Rattle.bus_model.specs.Starts.{starts, usual}
use Rattle.bus_model.specs.Strikes.{hits_on, struck, ShownBurst, burst_ticks, burst_end, Answer, ShownAnswer, shown_answer}
use Rattle.bus_model.specs.WorldLog.{attempt_at}
use Rattle.bus_law_control.specs.Abandoning.{IsAnsweredSoon}
use Rattle.bus_law_duties.specs.Duties.{AtMostOneOwes}
use Rattle.bus_law_duties.specs.Words.{with_data}
use Rattle.bus_law_parts.specs.Parts.{HitsFit}
use Rattle.bus_law_stations.specs.Messages.{IsAnswered}
use Rattle.bus_law_phases.specs.Scenarios.{Scenario, trace_at, shown_at, driven_at, commands_in, course_of}
use Rattle.bus_law_phases.specs.Passages.{Passage}
use Rattle.bus_law_phases.specs.PartRuns.{RunsAlone, IsFirstOf}
use Rattle.bus_law_phases.specs.Silences.{GoesOnTo}
use Rattle.bus_law_phases.specs.Moments.{Underway}

-- ---- how it begins

-- an answer is the status of its terminal with data words, each of sixteen bits
pub record IsStatusWithData (answer : Answer) : Type 0 where
  pub status : ℕ
  pub data_words : List ℕ
  pub words_are : answer.words ≡ with_data status data_words
  pub bits : status < 65536
  pub address : address_of status ≡ answer.address
  pub terminal : answer.address ≢ 31
  pub fits : AreWords data_words
  pub few : length data_words ≤ 32

-- in tick t the answer to a burst begins, as this part of its message, and something of it is shown
pub record AnswerBegins (w : Scenario) (t place : ℕ) (holder : StationData) (part : Part) (burst : ShownBurst) (afters : List After)
    (answer : ShownAnswer) : Type 0 where
  -- the burst has ended, and the stations are those of the table after it
  pub moment : Underway w (trace_at w t) place holder burst.channel (burst_end burst) part afters
  pub part_is : part ≢ Command
  -- it is the answer of the table, as the faults of the plan strike it in the attempt that runs
  pub shown : shown_answer (hits_on w.plan.faults (commands_in w (driven_at w t)) part) (answer_to burst afters) ≡ Some answer
  pub words : IsStatusWithData answer.sent
  -- it is due now, and accepts no control
  pub due : answer.sent.start ≡ t
  pub declines : answer.sent.acceptance ≡ false
  -- the run isn't over before this tick
  pub goes : GoesOnTo w (shown_at w t) (suc t)
  -- it leaves at most one terminal that owes an answer to it
  pub one : AtMostOneOwes (map (after_answer w.lag w.loads answer.burst) afters)

-- ---- the station in control

-- the same burst as a reader of the channel has it
abbrev pub burst_read : ShownBurst → Burst
burst_read burst = record { first = burst.start; ticks = burst_ticks burst; slots = burst.slots }

-- after what the channels showed, the ticks of a burst on one channel, the newest first, while the other is quiet; in the newest of them its end is known
pub record ShowsWhole (k : ℕ) (c : Channel) (burst : Burst) (past : List Pair) (x : Pair) (ticks : List Pair) : Type 0 where
  pub alone : RunsAlone k c ticks
  pub ended : ended_now k (on_channel c (x ∷ (ticks ++ past))) ≡ Some burst
  pub known : length (ticks ++ past) ≡ end_of burst + k
  -- both channels have been quiet since
  pub quiet : quiet_from (x ∷ (ticks ++ past)) ≡ end_of burst

-- beside a burst of another station on this channel the station in control sends nothing, and nothing changes of its controller until the end of the
-- burst is known; then its controller has this course, and control is kept
pub record HoldsBeside (w : Scenario) (past : List Pair) (holder : StationData) (c : Channel) (burst : Burst) (later : Course) : Type 0 where
  pub same : (ticks : List Pair) → RunsAlone w.lag c ticks → course_of w holder (ticks ++ past) ≡ course_of w holder past
  pub silent : (ticks : List Pair) → RunsAlone w.lag c ticks →
      drives_next w.lag holder (starts w.plan holder) w.loads w.outside (ticks ++ past) ≡ Silent
  pub then_is : (x : Pair) (ticks : List Pair) → ShowsWhole w.lag c burst past x ticks → course_of w holder (x ∷ (ticks ++ past)) ≡ later
  pub kept : later.holds ≡ true

-- likewise, where that may depend on which samples of these words, as these hits strike them, were shown so far
pub record HoldsBesideShown (w : Scenario) (past : List Pair) (holder : StationData) (c : Channel) (hits : List Hit) (words : List Word) (burst : Burst)
    (later : Course) : Type 0 where
  pub same : (ticks : List Pair) → IsFirstOf w.lag c hits words ticks → course_of w holder (ticks ++ past) ≡ course_of w holder past
  pub silent : (ticks : List Pair) → IsFirstOf w.lag c hits words ticks →
      drives_next w.lag holder (starts w.plan holder) w.loads w.outside (ticks ++ past) ≡ Silent
  pub then_is : (x : Pair) (ticks : List Pair) → IsFirstOf w.lag c hits words ticks → ShowsWhole w.lag c burst past x ticks →
      course_of w holder (x ∷ (ticks ++ past)) ≡ later
  pub kept : later.holds ≡ true

-- an answer that begins in this tick: its words as they are struck, and what strikes it fits it
pub record BeginsAt (t : ℕ) (part : Part) (answer : ShownAnswer) : Type 0 where
  pub burst : answer.burst
      ≡ record { channel = answer.sent.channel; start = t; slots = struck answer.hits answer.sent.words; rest = 0 }
  pub fits : HitsFit part answer.hits answer.sent.words

-- it waits for an answer to its message, which it may abandon: the burst that is answered ended in tick e, and the answer begins in time
pub record MayAbandon (w : Scenario) (past : List Pair) (holder : StationData) (begun : Begun) (e : ℕ) : Type 0 where
  pub holds : (course_of w holder past).holds ≡ true
  pub answered : IsAnsweredSoon begun (course_of w holder past) past e
  pub rests : runs w.lag (on_channel begun.state.channel past) ≡ false

-- it waits for an answer to its message: the burst that is answered ended in tick e, and the answer begins in time
pub record WaitsToRead (w : Scenario) (past : List Pair) (holder : StationData) (begun : Begun) (e : ℕ) : Type 0 where
  pub holds : (course_of w holder past).holds ≡ true
  pub answered : IsAnswered begun (course_of w holder past) past e
  pub rests : runs w.lag (on_channel begun.state.channel past) ≡ false

-- it has closed its message, and doesn't start the next one before both channels have been quiet for so many ticks, which are more than a burst may have
-- in a row
pub record RestsBeside (w : Scenario) (past : List Pair) (holder : StationData) (need : ℕ) : Type 0 where
  pub holds : (course_of w holder past).holds ≡ true
  pub idle : (course_of w holder past).runs ≡ None
  pub from : ℕ
  pub opening : (course_of w holder past).opening ≡ usual need from
  pub more : w.lag < need
  pub now : quiet_both past < need

-- the attempt of a station that ended in a tick, by its course
abbrev pub attempts_ended : Scenario → StationData → ℕ → Course → List Attempt
attempts_ended w station tick c = attempt_at w.lag w.plan w.loads w.outside w.absent station.terminal.address tick c.ended

-- ---- how it is over

-- from tick t to tick u an answer to a burst was sent, and its end became known
pub record AnswerOver (w : Scenario) (t u place : ℕ) (holder : StationData) (burst : ShownBurst) (afters : List After) (answer : ShownBurst)
    (later : Course) : Type 0 where
  -- the stations are those that the table has after it
  pub moment : Underway w (trace_at w u) place holder burst.channel (burst_end answer) Second (map (after_answer w.lag w.loads answer) afters)
  -- the blocks that were taken of it, its burst, and the attempt that ended with it, if any
  pub passed : Passage w t u record {
    blocks = blocks_taken w.lag w.loads answer (map (after_answer w.lag w.loads answer) afters);
    bursts = answer ∷ [];
    attempts = attempts_ended w holder (burst_end answer + w.lag) later;
    commands = 0;
  }
  -- both channels are quiet from its end on
  pub quiet : quiet_from (shown_at w u) ≡ burst_end answer
  -- the controller of the station in control has this course
  pub course : course_of w holder (shown_at w u) ≡ later
  -- and this is what was shown
  pub newest : Pair
  pub ticks : List Pair
  pub shown : shown_at w u ≡ newest ∷ (ticks ++ shown_at w t)
  pub whole : ShowsWhole w.lag burst.channel (burst_read answer) (shown_at w t) newest ticks
