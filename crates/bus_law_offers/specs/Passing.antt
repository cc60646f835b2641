-- What the end of an answer that accepts control leaves (dynamic bus control, MIL-STD-1553B 4.3.3.5.1.7.1).
use Rattle.std.specs.Prelude.{◌≡◌, ◌≢◌, ◌⊎◌, ℕ, ◌+◌, true, false, List, [], ◌∷◌, ◌++◌, map, length}
use Rattle.bus_base.specs.declared.samples.Channel.{Channel}
use Rattle.bus_base.specs.declared.samples.Drive.TheVariants.{Silent}
use Rattle.bus_base.specs.declared.samples.Pair.{Pair}
use Rattle.bus_base.specs.declared.samples.Part.TheVariants.{Second}
use Rattle.bus_words.specs.declared.word.Word.{Word}
use Rattle.bus_line.specs.Past.{Burst}
use Rattle.bus_formats.specs.Plans.{StationData}
use Rattle.bus_formats.specs.declared.fault.Hit.{Hit}
use Rattle.bus_model.specs.Control.{doubts, drives_next}
use Rattle.bus_model.specs.Course.{Course, quiet_from}
use Rattle.bus_model.specs.Message.{After, after_answer, blocks_taken}
use Rattle.bus_model.specs.Starts.{starts}
use Rattle.bus_model.specs.Strikes.{ShownBurst, burst_end}
use Rattle.bus_model.specs.WorldLog.{present_stations}
use Rattle.bus_law_offers.specs.Accepting.{TookControl}
use Rattle.bus_law_parts.specs.Parts.{IsFresh}
use Rattle.bus_law_phases.specs.Answers.{burst_read, ShowsWhole, attempts_ended}
use Rattle.bus_law_phases.specs.Moments.{IsHolder, IsServer}
use Rattle.bus_law_phases.specs.Pairing.{Beside}
use Rattle.bus_law_phases.specs.PartRuns.{IsFirstOf}
use Rattle.bus_law_phases.specs.Passages.{Passage}
use Rattle.bus_law_phases.specs.Scenarios.{Scenario, trace_at, shown_at, driven_at, course_of, hearing_of, present_of, IsPresentAt}
use Rattle.bus_law_phases.specs.Silences.{IsQuiet}
use Rattle.bus_law_table.specs.Stations.{loaded_at, HeardNothing}

-- the station that offered control: its controller has this course, and its terminal heard nothing and keeps what it kept
pub record HolderLeft (w : Scenario) (past later : List Pair) (holder : StationData) (c : Course) : Type 0 where
  pub course : course_of w holder later ≡ c
  pub nothing : HeardNothing w.lag holder (starts w.plan holder) w.loads w.outside later
  pub memory : (hearing_of w holder later).memory ≡ (hearing_of w holder past).memory

-- beside the answer it sends nothing, and nothing changes of its controller until the end of the answer is known; then it is left so, and gave control
-- away or doubts
pub record HoldsToEnd (w : Scenario) (past : List Pair) (holder : StationData) (c : Channel) (hits : List Hit) (words : List Word) (burst : Burst)
    (later : Course) : Type 0 where
  pub same : (ticks : List Pair) → IsFirstOf w.lag c hits words ticks → course_of w holder (ticks ++ past) ≡ course_of w holder past
  pub silent : (ticks : List Pair) → IsFirstOf w.lag c hits words ticks →
      drives_next w.lag holder (starts w.plan holder) w.loads w.outside (ticks ++ past) ≡ Silent
  pub then_is : (x : Pair) (ticks : List Pair) → IsFirstOf w.lag c hits words ticks → ShowsWhole w.lag c burst past x ticks →
      HolderLeft w past (x ∷ (ticks ++ past)) holder later
  pub decides : (later.holds ≡ false)
      ⊎ ((x : Pair) (ticks : List Pair) → IsFirstOf w.lag c hits words ticks → ShowsWhole w.lag c burst past x ticks →
      doubts w.lag holder (starts w.plan holder) w.loads w.outside (x ∷ (ticks ++ past)) ≡ true)

-- a station beside its entry of the table: the one that offered control; the one that took it; or another one, which is what the table says
abbrev pub IsLeft : Scenario → List Pair → ℕ → StationData → ℕ → StationData → Channel → ℕ → StationData → After → Type 0
IsLeft w past place holder answerer answering c e station after =
    ((station ≡ holder) × IsHolder w past station after)
    ⊎ (((station ≡ answering) × (present_of w station past ≡ loaded_at w.loads (length past) (record after.station { serves = false })))
    ⊎ ((other : ℕ) × (other ≢ place) × (other ≢ answerer) × IsPresentAt w other station × IsServer w past c e Second station after))

-- from tick t to tick u an answer of these words, which these hits strike, and by which the station at this place accepted control, was sent, and its
-- end became known
pub record AcceptOver (w : Scenario) (t u place : ℕ) (holder : StationData) (answerer : ℕ) (answering : StationData) (burst : ShownBurst) (afters : List After)
    (hits : List Hit) (words : List Word) (answer : ShownBurst) (later : Course) : Type 0 where
  pub quiet_then : IsQuiet w (trace_at w u)
  pub fresh : (d : Channel) (station : ℕ) → IsFresh w.plan.faults d (driven_at w u) station
  pub left : HolderLeft w (shown_at w t) (shown_at w u) holder later
  pub took : TookControl w (shown_at w t) (shown_at w u) answering (burst_end answer)
  pub stations : Beside (IsLeft w (shown_at w u) place holder answerer answering burst.channel (burst_end answer))
      (present_stations w.lag w.plan w.loads w.outside w.absent) (map (after_answer w.lag w.loads answer) afters)
  pub passed : Passage w t u record {
    blocks = blocks_taken w.lag w.loads answer (map (after_answer w.lag w.loads answer) afters);
    bursts = answer ∷ [];
    attempts = attempts_ended w holder (burst_end answer + w.lag) later;
    commands = 0;
  }
  pub quiet : quiet_from (shown_at w u) ≡ burst_end answer
  pub newest : Pair
  pub ticks : List Pair
  pub shown : shown_at w u ≡ newest ∷ (ticks ++ shown_at w t)
  pub first : IsFirstOf w.lag burst.channel hits words ticks
  pub whole : ShowsWhole w.lag burst.channel (burst_read answer) (shown_at w t) newest ticks
