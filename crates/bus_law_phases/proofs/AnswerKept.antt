-- A station in control that may abandon an answer, and doesn't: the answer is over, or its sample faded, in the tick in which it would.
use Rattle.std.proofs.Common.{◌≡◌, inl, inr, ℕ, suc, ◌+◌, ◌<◌, ◌≤◌, Bool, true, false, not, List, [], ◌∷◌, ◌++◌, length, Some, None, refl, sym, ap, ◌∙◌, subst, arith, length-append}
use Rattle.bus_base.specs.declared.samples.Channel.{Channel}
use Rattle.bus_base.specs.declared.samples.Pair.{Pair}
use Rattle.bus_base.specs.declared.samples.Part.TheVariants.{First}
use Rattle.bus_base.specs.declared.samples.Sample.{Sample}
use Rattle.bus_law_parts.specs.Parts.{part_ticks, part_sample}
use Rattle.bus_law_parts.proofs.BrokenOff.{quiet-faded}
use Rattle.bus_law_parts.proofs.PartSlots.{no-sample}
use Rattle.bus_words.specs.declared.word.Word.{Word}
use Rattle.bus_formats.specs.declared.fault.Hit.{Hit}
use Rattle.bus_base.specs.Samples.{sample_on, is_quiet}
use Rattle.bus_base.specs.declared.samples.Part.{Part}
use Rattle.bus_base.specs.declared.samples.Sample.TheVariants.{Plus, Minus, Quiet}
use Rattle.std.proofs.lemmas.Bool.{true≢false, cases_lt}
use Rattle.std.proofs.lemmas.Bool.Decides.{nat_tests}
use Rattle.std.proofs.lemmas.Option.{none-some}
use Rattle.std.specs.Prelude.{◌-◌, ◌*◌, ◌&&◌, nat_le, get_or, if◌then◌else◌}
use Rattle.bus_line.specs.Past.{quiet, Burst, end_of, rest_of, ended_now}
use Rattle.bus_line.specs.Channels.{on_channel}
use Rattle.bus_formats.specs.Forms.{answers_of}
use Rattle.bus_formats.specs.Plans.{StationData}
use Rattle.bus_formats.specs.Readings.{read_answer}
use Rattle.bus_formats.specs.declared.form.Reading.TheVariants.{Good}
use Rattle.bus_formats.specs.declared.form.Shape.{Shape}
use Rattle.bus_model.specs.Attempts.{Begun, Ended}
use Rattle.bus_model.specs.Controller.{first_read}
use Rattle.bus_model.specs.Endings.{abandoned_at}
use Rattle.bus_model.specs.Strikes.{struck, ShownBurst, burst_end, ShownAnswer, is_faded}
use Rattle.bus_model.specs.Course.{Take, Course, gives, close, close_or_run, course}
use Rattle.bus_model.specs.Control.{so_far}
use Rattle.bus_model.specs.Starts.{starts}
use Rattle.bus_law_control.specs.Abandoning.{IsKept, AreKept}
use Rattle.bus_law_control.proofs.Answered.{first-runs, first-silent, first-read, first-relayed}
use Rattle.bus_law_stations.specs.Messages.{ShowsBurst}
use Rattle.bus_law_stations.specs.Silence.{AreTaken, AwaitsFirst, AwaitsSecond}
use Rattle.bus_law_control.proofs.Endings.{later-end}
use Rattle.bus_law_stations.proofs.AnswerTicks.{awaited-since, reply-whole}
use Rattle.bus_law_stations.proofs.Commanding.{quiet-since-end}
use Rattle.bus_line.proofs.ChannelLaws.{length-on}
use Rattle.bus_formats.specs.Times.{no_response}
use Rattle.bus_law_stations.proofs.StillStation.{always-taken}
use Rattle.bus_law_phases.specs.Answers.{burst_read, ShowsWhole, HoldsBesideShown, BeginsAt, MayAbandon}
use Rattle.bus_law_phases.specs.PartRuns.{IsFirstOf}
use Rattle.bus_law_phases.specs.Scenarios.{Scenario, course_of}
use Rattle.bus_law_phases.proofs.AnswerHolding.{same-on, silent-on, ends-on}
use Rattle.bus_law_phases.proofs.Legs.{first-less}
use Rattle.bus_law_phases.proofs.PartRunning.{on-more}

-- ---- it waits for the answer

-- the newest of its samples
newest-sample : (k : ℕ) (c : Channel) (hits : List Hit) (words : List Word) (x : Pair) (ticks : List Pair) → IsFirstOf k c hits words (x ∷ ticks) →
    sample_on x c ≡ part_sample hits words (length ticks)
newest-sample k c hits words x ticks first = ap (λ xs. get_or xs 0 Plus) (sym (on-more c x ticks) ∙ first.shown)

some-quiet : (y : Sample) (past : List Sample) → is_quiet y ≡ true → 0 < quiet (y ∷ past)
some-quiet Quiet past is = omega arith
some-quiet Plus past is = absurd (true≢false (sym is))
some-quiet Minus past is = absurd (true≢false (sym is))

none-at : (test : Bool) (tick : ℕ) → (if test then Some tick else None) ≡ None → test ≡ false
none-at true tick is = absurd (none-some tick (sym is))
none-at false tick is = refl

late-or-faded : (a b : Bool) → (a && not b) ≡ false → a ≡ true → b ≡ true
late-or-faded true true test early = refl
late-or-faded true false test early = absurd (true≢false test)
late-or-faded false b test early = absurd (true≢false (sym early))

-- after a relay's good first answer its second one is awaited
awaits-second : (k : ℕ) (begun : Begun) (past ticks : List Pair) (now : Pair) (e : ℕ) (burst : Burst) (shape : Shape) (status : ℕ) →
    length past ≤ e + no_response → AwaitsFirst k begun (on_channel begun.state.channel past) e → ShowsBurst k begun.state.channel past ticks →
    ended_now k (on_channel begun.state.channel (now ∷ (ticks ++ past))) ≡ Some burst →
    read_answer begun.entry.item.kind First burst.slots (rest_of burst) ≡ Good status → (answers_of begun.entry.item.kind).second ≡ Some shape →
    (v : AwaitsSecond k begun (on_channel begun.state.channel (now ∷ (ticks ++ past))) (end_of burst)) × (v.status ≡ status)
awaits-second k begun past ticks now e burst shape status prompt waits shows ended good second =
    let since = awaited-since k begun (on_channel begun.state.channel past) e (inl waits) in
    let long : length (on_channel begun.state.channel past) ≡ length past = length-on begun.state.channel past in (
      record {
        command_end = e;
        ended = later-end k begun.state.channel past (now ∷ ticks) begun.start e waits.ended;
        first = waits.shape;
        second = shape;
        expects_first = waits.expects;
        expects_second = second;
        burst = burst;
        status = status;
        answered = reply-whole k begun.state.channel past ticks now e burst shows (omega (arith, since.0, long)) prompt since.1 ended;
        good = good;
        end = refl;
        silent = quiet-since-end k (on_channel begun.state.channel (now ∷ (ticks ++ past))) burst ended;
      },
      refl,
    )

module _ (w : Scenario) (past : List Pair) (holder : StationData) (begun : Begun) (e : ℕ) (part : Part) (answer : ShownAnswer)
    (awaits : MayAbandon w past holder begun e) (begins : BeginsAt (length past) part answer) where
  abbrev c : Channel
  c = begun.state.channel

  abbrev hits : List Hit
  hits = answer.hits

  abbrev words : List Word
  words = answer.sent.words

  abbrev before : List Take
  before = (so_far w.lag holder (starts w.plan holder) w.loads w.outside past).takes

  taken-before : AreTaken (length past) before
  taken-before = always-taken w.lag holder (starts w.plan holder) w.loads w.outside past

  shows : (ticks : List Pair) → IsFirstOf w.lag c hits words ticks → ShowsBurst w.lag c past ticks
  shows ticks first = record { rests = awaits.rests; leg = first.alone.leg }

  abbrev closed : Ended → Course
  closed ending = close (course_of w holder past) begun ending (burst_end answer.burst + w.lag)

  -- where the answer isn't abandoned, its sample is quiet in the tick in which it would be
  module _ (never : abandoned_at w.lag begun.entry.item.kind begun.entry.item.abandon e answer ≡ None) where
    kept-now : (x : Pair) (ticks : List Pair) → IsFirstOf w.lag c hits words (x ∷ ticks) → IsKept begun e ((x ∷ ticks) ++ past)
    kept-now x ticks first n is at =
        let i = length ticks in
        let long : length ((x ∷ ticks) ++ past) ≡ suc (length ticks) + length past = length-append (x ∷ ticks) past in
        let start : answer.burst.start ≡ length past = ap (λ (b : ShownBurst). b.start) begins.burst in
        let end : burst_end answer.burst ≡ length past + (40 * length (struck hits words) + 0) = ap burst_end begins.burst in
        let none : abandoned_at w.lag begun.entry.item.kind (Some n) e answer ≡ None =
        ap (λ o. abandoned_at w.lag begun.entry.item.kind o e answer) (sym is) ∙ never in
        let test = none-at (nat_le (e + n) (burst_end answer.burst) && not (is_faded answer (e + n - 1 - answer.burst.start))) (e + n - 1) none in
        let place : e + n - 1 - answer.burst.start ≡ length ticks = omega (arith, at, long, start) in
        let sample = newest-sample w.lag c hits words x ticks first in
        let quiet_now : is_quiet (sample_on x c) ≡ true = elim (cases_lt (length ticks) (part_ticks hits words)) [
          | inl sent ↦ (let early : nat_le (e + n) (burst_end answer.burst) ≡ true = grind (arith, nat_tests, end, at, long, sent) in
              let faded : is_faded answer (e + n - 1 - answer.burst.start) ≡ true =
              late-or-faded (nat_le (e + n) (burst_end answer.burst)) (is_faded answer (e + n - 1 - answer.burst.start)) test early in
              ap is_quiet sample ∙ quiet-faded part answer i begins.fits sent ∙ ap (is_faded answer) (sym place) ∙ faded)
          | inr over ↦ ap is_quiet (sample ∙ no-sample hits words i over)
        ] in
        let parts : on_channel c ((x ∷ ticks) ++ past) ≡ sample_on x c ∷ on_channel c (ticks ++ past) = on-more c x (ticks ++ past) in
        subst (λ xs. 0 < quiet xs) (sym parts) (some-quiet (sample_on x c) (on_channel c (ticks ++ past)) quiet_now)

    pub all-kept : (ticks : List Pair) → IsFirstOf w.lag c hits words ticks → AreKept begun e past ticks
    all-kept [] first = tt
    all-kept (x ∷ ticks) first = (kept-now x ticks first, all-kept ticks (first-less w.lag c hits words x ticks first))

    module _ (waits : AwaitsFirst w.lag begun (on_channel begun.state.channel past) e) where
      first-still : (ticks : List Pair) → IsFirstOf w.lag c hits words ticks →
          course w.lag holder (starts w.plan holder) before (ticks ++ past) ≡ course_of w holder past
      first-still ticks first =
          first-runs w.lag holder (starts w.plan holder) before past begun e taken-before awaits.answered waits ticks (shows ticks first) (all-kept ticks first)

      beside-first : (later : Course) → later.holds ≡ true →
          ((x : Pair) (ticks : List Pair) → IsFirstOf w.lag c hits words ticks → ShowsWhole w.lag c (burst_read answer.burst) past x ticks →
          course w.lag holder (starts w.plan holder) before (x ∷ (ticks ++ past)) ≡ later) →
          HoldsBesideShown w past holder c answer.hits answer.sent.words (burst_read answer.burst) later
      beside-first later kept ends = record {
        same = same-on w past holder (IsFirstOf w.lag c hits words) (first-less w.lag c hits words) awaits.holds first-still;
        silent = λ ticks first. silent-on w past holder (IsFirstOf w.lag c hits words) (first-less w.lag c hits words) awaits.holds first-still ticks first
            (first-silent w.lag holder (starts w.plan holder) before past begun e taken-before awaits.answered waits ticks (shows ticks first)
            (all-kept ticks first));
        then_is = λ x ticks first shown. ends-on w past holder (IsFirstOf w.lag c hits words) (first-less w.lag c hits words) awaits.holds first-still x ticks first later (ends x ticks first shown) kept;
        kept = kept;
      }

      -- the first answer, or the only one, ends the message so
      pub kept-first : (ending : Ended) →
          ((shown : List Pair) (heard : List Sample) → first_read w.lag begun.entry.item shown heard (burst_read answer.burst)
          (read_answer begun.entry.item.kind First answer.burst.slots (rest_of (burst_read answer.burst))) ≡ Some ending) →
          gives ending.outcome ≡ false →
          HoldsBesideShown w past holder begun.state.channel answer.hits answer.sent.words (burst_read answer.burst)
          (close (course_of w holder past) begun ending (burst_end answer.burst + w.lag))
      kept-first ending reads keeps =
          beside-first (closed ending) (ap not keeps) (λ x ticks first shown.
          first-read w.lag holder (starts w.plan holder) before past begun e taken-before awaits.answered waits ticks x (burst_read answer.burst)
          (shows ticks first) (all-kept ticks first) shown.ended
          ∙ ap (close_or_run (course_of w holder past) begun (length (ticks ++ past)))
          (reads (x ∷ (ticks ++ past)) (on_channel begun.state.channel (x ∷ (ticks ++ past))))
          ∙ ap (close (course_of w holder past) begun ending) shown.known)

      -- a good first answer of a relay changes nothing of the controller, and the second one is awaited from its end on
      pub kept-relayed : (shape : Shape) (status : ℕ) → w.lag < 24 →
          read_answer begun.entry.item.kind First answer.burst.slots (rest_of (burst_read answer.burst)) ≡ Good status →
          (answers_of begun.entry.item.kind).second ≡ Some shape →
          HoldsBesideShown w past holder begun.state.channel answer.hits answer.sent.words (burst_read answer.burst) (course_of w holder past)
          × ((x : Pair) (ticks : List Pair) → ShowsWhole w.lag begun.state.channel (burst_read answer.burst) past x ticks →
          (v : AwaitsSecond w.lag begun (on_channel begun.state.channel (x ∷ (ticks ++ past))) (burst_end answer.burst)) × (v.status ≡ status))
      kept-relayed shape status small good second = (
        beside-first (course_of w holder past) awaits.holds (λ x ticks first shown.
            (first-relayed w.lag holder (starts w.plan holder) before past begun e taken-before awaits.answered small waits ticks x (burst_read answer.burst)
            shape status (shows ticks first) (all-kept ticks first) shown.ended good second).0),
        λ x ticks shown. awaits-second w.lag begun past ticks x e (burst_read answer.burst) shape status awaits.answered.prompt waits
            record { rests = awaits.rests; leg = shown.alone.leg } shown.ended good second,
      )
