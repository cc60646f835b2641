-- The station in control beside an answer: it waits for it and reads it, or it has closed its message and rests.
use Rattle.std.proofs.Common.{◌≡◌, inl, inr, ℕ, ◌+◌, ◌<◌, ◌≤◌, true, false, not, List, [], ◌∷◌, ◌++◌, length, Some, refl, ap, ◌∙◌}
use Rattle.std.proofs.lemmas.Bool.{eq-eqb}
use Rattle.std.specs.Prelude.{◌==◌}
use Rattle.bus_base.specs.declared.samples.Channel.{Channel}
use Rattle.bus_base.specs.declared.samples.Pair.{Pair}
use Rattle.bus_base.specs.declared.samples.Part.TheVariants.{First, Second}
use Rattle.bus_base.specs.declared.samples.Sample.{Sample}
use Rattle.bus_line.specs.Past.{Burst, end_of, rest_of}
use Rattle.bus_line.specs.Channels.{on_channel}
use Rattle.bus_formats.specs.Forms.{answers_of}
use Rattle.bus_formats.specs.Plans.{StationData}
use Rattle.bus_formats.specs.Readings.{read_answer}
use Rattle.bus_formats.specs.declared.form.Reading.TheVariants.{Good}
use Rattle.bus_formats.specs.declared.form.Shape.{Shape}
use Rattle.bus_model.specs.Attempts.{Begun, Ended}
use Rattle.bus_model.specs.Controller.{first_read, second_read}
use Rattle.bus_model.specs.Course.{Take, Course, gives, close, close_or_run, course}
use Rattle.bus_model.specs.Control.{so_far}
use Rattle.bus_model.specs.Starts.{starts}
use Rattle.bus_law_control.proofs.Early.{early-course, early-silent, leg-starts, needs-quiet}
use Rattle.bus_law_control.proofs.Holding.{ended-before}
use Rattle.bus_law_control.specs.Waiting.{StartsLater, StartedNone}
use Rattle.bus_law_stations.proofs.Reading.{answer-runs, answer-silent, first-is-read, second-is-read, first-is-relayed, relayed-status}
use Rattle.bus_law_stations.specs.Messages.{ShowsBurst}
use Rattle.bus_law_stations.specs.Silence.{AreTaken, AwaitsFirst, AwaitsSecond}
use Rattle.bus_law_stations.proofs.StillStation.{always-taken}
use Rattle.bus_law_stations.proofs.StillController.{Awaits}
use Rattle.bus_law_phases.specs.Answers.{ShowsWhole, HoldsBeside, WaitsToRead, RestsBeside, attempts_ended}
use Rattle.bus_law_phases.specs.Commands.{attempt_recorded}
use Rattle.bus_law_phases.specs.PartRuns.{RunsAlone}
use Rattle.bus_law_phases.specs.Scenarios.{Scenario, course_of}
use Rattle.bus_law_phases.proofs.AnswerHolding.{same-on, silent-on, ends-on}
use Rattle.bus_law_phases.proofs.Legs.{runs-less}
use Rattle.bus_law_phases.proofs.Resting.{no-attempt}

-- ---- it waits for the answer

module _ (w : Scenario) (past : List Pair) (holder : StationData) (begun : Begun) (e : ℕ) (awaits : WaitsToRead w past holder begun e)
    (waits : Awaits w.lag begun (on_channel begun.state.channel past) e) where
  abbrev c : Channel
  c = begun.state.channel

  abbrev before : List Take
  before = (so_far w.lag holder (starts w.plan holder) w.loads w.outside past).takes

  taken-before : AreTaken (length past) before
  taken-before = always-taken w.lag holder (starts w.plan holder) w.loads w.outside past

  shows : (ticks : List Pair) → RunsAlone w.lag c ticks → ShowsBurst w.lag c past ticks
  shows ticks alone = record { rests = awaits.rests; leg = alone.leg }

  waits-still : (ticks : List Pair) → RunsAlone w.lag c ticks → course w.lag holder (starts w.plan holder) before (ticks ++ past) ≡ course_of w holder past
  waits-still ticks alone =
      answer-runs w.lag holder (starts w.plan holder) before past begun e taken-before awaits.answered waits ticks (shows ticks alone)

  -- by the course that it has with the end of the burst
  waits-beside : (burst : Burst) (later : Course) → later.holds ≡ true →
      ((x : Pair) (ticks : List Pair) → ShowsWhole w.lag c burst past x ticks → course w.lag holder (starts w.plan holder) before (x ∷ (ticks ++ past)) ≡ later) →
      HoldsBeside w past holder c burst later
  waits-beside burst later kept ends = record {
    same = same-on w past holder (RunsAlone w.lag c) (runs-less w.lag c) awaits.holds waits-still;
    silent = λ ticks alone. silent-on w past holder (RunsAlone w.lag c) (runs-less w.lag c) awaits.holds waits-still ticks alone
        (answer-silent w.lag holder (starts w.plan holder) before past begun e taken-before awaits.answered waits ticks (shows ticks alone));
    then_is = λ x ticks whole. ends-on w past holder (RunsAlone w.lag c) (runs-less w.lag c) awaits.holds waits-still x ticks whole.alone later (ends x ticks whole) kept;
    kept = kept;
  }

  abbrev closed : Ended → ℕ → Course
  closed ending tick = close (course_of w holder past) begun ending tick

  -- so one whose reading ends the message
  closes-beside : (burst : Burst) (ending : Ended) → gives ending.outcome ≡ false →
      ((x : Pair) (ticks : List Pair) → ShowsWhole w.lag c burst past x ticks → course w.lag holder (starts w.plan holder) before (x ∷ (ticks ++ past))
      ≡ close_or_run (course_of w holder past) begun (length (ticks ++ past)) (Some ending)) →
      HoldsBeside w past holder c burst (close (course_of w holder past) begun ending (end_of burst + w.lag))
  closes-beside burst ending keeps ends =
      waits-beside burst (closed ending (end_of burst + w.lag)) (ap not keeps) (λ x ticks whole. ends x ticks whole ∙ ap (closed ending) whole.known)

module _ (w : Scenario) (past : List Pair) (holder : StationData) (begun : Begun) (e : ℕ) (awaits : WaitsToRead w past holder begun e) (burst : Burst) where
  abbrev channel : Channel
  channel = begun.state.channel

  abbrev earlier : List Take
  earlier = (so_far w.lag holder (starts w.plan holder) w.loads w.outside past).takes

  taken-earlier : AreTaken (length past) earlier
  taken-earlier = always-taken w.lag holder (starts w.plan holder) w.loads w.outside past

  shows-so : (ticks : List Pair) → RunsAlone w.lag channel ticks → ShowsBurst w.lag channel past ticks
  shows-so ticks alone = record { rests = awaits.rests; leg = alone.leg }

  -- the first answer, or the only one, ends the message so
  pub first-beside : (ending : Ended) → AwaitsFirst w.lag begun (on_channel begun.state.channel past) e →
      ((shown : List Pair) (heard : List Sample) →
      first_read w.lag begun.entry.item shown heard burst (read_answer begun.entry.item.kind First burst.slots (rest_of burst)) ≡ Some ending) →
      gives ending.outcome ≡ false →
      HoldsBeside w past holder begun.state.channel burst (close (course_of w holder past) begun ending (end_of burst + w.lag))
  first-beside ending waits reads keeps =
      closes-beside w past holder begun e awaits (inl waits) burst ending keeps (λ x ticks whole.
      first-is-read w.lag holder (starts w.plan holder) earlier past begun e taken-earlier awaits.answered waits ticks x burst (shows-so ticks whole.alone)
      whole.ended
      ∙ ap (close_or_run (course_of w holder past) begun (length (ticks ++ past)))
      (reads (x ∷ (ticks ++ past)) (on_channel begun.state.channel (x ∷ (ticks ++ past)))))

  -- so does a relay's second one
  pub second-beside : (ending : Ended) (waits : AwaitsSecond w.lag begun (on_channel begun.state.channel past) e) →
      ((shown : List Pair) (heard : List Sample) →
      second_read w.lag begun.entry.item shown heard waits.status (read_answer begun.entry.item.kind Second burst.slots (rest_of burst)) ≡ Some ending) →
      gives ending.outcome ≡ false →
      HoldsBeside w past holder begun.state.channel burst (close (course_of w holder past) begun ending (end_of burst + w.lag))
  second-beside ending waits reads keeps =
      closes-beside w past holder begun e awaits (inr waits) burst ending keeps (λ x ticks whole.
      second-is-read w.lag holder (starts w.plan holder) earlier past begun e taken-earlier awaits.answered waits ticks x burst (shows-so ticks whole.alone)
      whole.ended
      ∙ ap (close_or_run (course_of w holder past) begun (length (ticks ++ past)))
      (reads (x ∷ (ticks ++ past)) (on_channel begun.state.channel (x ∷ (ticks ++ past)))))

  -- a good first answer of a relay changes nothing of the controller, and the second one is awaited from its end on
  pub relayed-beside : (shape : Shape) (status : ℕ) → w.lag < 24 → AwaitsFirst w.lag begun (on_channel begun.state.channel past) e →
      read_answer begun.entry.item.kind First burst.slots (rest_of burst) ≡ Good status → (answers_of begun.entry.item.kind).second ≡ Some shape →
      HoldsBeside w past holder begun.state.channel burst (course_of w holder past)
      × ((x : Pair) (ticks : List Pair) → ShowsWhole w.lag begun.state.channel burst past x ticks →
      (v : AwaitsSecond w.lag begun (on_channel begun.state.channel (x ∷ (ticks ++ past))) (end_of burst)) × (v.status ≡ status))
  relayed-beside shape status small waits good second = (
    waits-beside w past holder begun e awaits (inl waits) burst (course_of w holder past) awaits.holds (λ x ticks whole.
        (first-is-relayed w.lag holder (starts w.plan holder) earlier past begun e taken-earlier awaits.answered small waits ticks x burst shape status
        (shows-so ticks whole.alone) whole.ended good second).0),
    λ x ticks whole. (
      (first-is-relayed w.lag holder (starts w.plan holder) earlier past begun e taken-earlier awaits.answered small waits ticks x burst shape status
          (shows-so ticks whole.alone) whole.ended good second).1,
      relayed-status w.lag holder (starts w.plan holder) earlier past begun e taken-earlier awaits.answered small waits ticks x burst shape status
          (shows-so ticks whole.alone) whole.ended good second,
    ),
  )

-- ---- it has closed its message

module _ (w : Scenario) (past : List Pair) (holder : StationData) (need : ℕ) (rests : RestsBeside w past holder need) where
  abbrev at_rest : Course
  at_rest = course_of w holder past

  abbrev until : List Take
  until = (so_far w.lag holder (starts w.plan holder) w.loads w.outside past).takes

  taken-until : AreTaken (length past) until
  taken-until = always-taken w.lag holder (starts w.plan holder) w.loads w.outside past

  none-starts : (c : Channel) (ticks : List Pair) → RunsAlone w.lag c ticks → StartedNone at_rest past ticks × StartsLater at_rest (ticks ++ past)
  none-starts c ticks alone =
      leg-starts w.lag at_rest c past ticks need rests.from rests.opening rests.more alone.leg
      (needs-quiet at_rest past need rests.from rests.opening rests.now)

  rests-still : (c : Channel) (ticks : List Pair) → RunsAlone w.lag c ticks →
      course w.lag holder (starts w.plan holder) until (ticks ++ past) ≡ course_of w holder past
  rests-still c ticks alone =
      early-course w.lag holder (starts w.plan holder) until past ticks taken-until rests.idle (none-starts c ticks alone).0

  pub rests-beside : (c : Channel) (burst : Burst) → HoldsBeside w past holder c burst (course_of w holder past)
  rests-beside c burst = record {
    same = same-on w past holder (RunsAlone w.lag c) (runs-less w.lag c) rests.holds (rests-still c);
    silent = λ ticks alone. silent-on w past holder (RunsAlone w.lag c) (runs-less w.lag c) rests.holds (rests-still c) ticks alone
        (early-silent w.lag holder (starts w.plan holder) until past ticks taken-until rests.idle (none-starts c ticks alone).0 (none-starts c ticks alone).1);
    then_is = λ x ticks whole. ends-on w past holder (RunsAlone w.lag c) (runs-less w.lag c) rests.holds (rests-still c) x ticks whole.alone (course_of w holder past)
        (early-course w.lag holder (starts w.plan holder) until past (x ∷ ticks) taken-until rests.idle
        ((none-starts c ticks whole.alone).1, (none-starts c ticks whole.alone).0)) rests.holds;
    kept = rests.holds;
  }

-- ---- the attempts that end

-- an attempt that is closed ended in its tick
pub closed-attempts : (w : Scenario) (holder : StationData) (c : Course) (begun : Begun) (ending : Ended) (tick : ℕ) →
    attempts_ended w holder tick (close c begun ending tick) ≡ attempt_recorded holder.terminal.address begun ending tick ∷ []
closed-attempts w holder c begun ending tick = let same : (tick == tick) ≡ true = eq-eqb tick tick refl in rw same refl

-- none of those that ended before does
pub no-attempts : (w : Scenario) (holder : StationData) (past : List Pair) (tick : ℕ) → length past ≤ tick →
    attempts_ended w holder tick (course_of w holder past) ≡ []
no-attempts w holder past tick late =
    no-attempt w holder.terminal.address tick (length past) (course_of w holder past).ended late
    (ended-before w.lag holder (starts w.plan holder) (so_far w.lag holder (starts w.plan holder) w.loads w.outside past).takes past)
