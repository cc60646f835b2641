-- The station in control beside an answer that it abandons: until that tick it only waits, and with it it closes its message.
use Rattle.std.proofs.Common.{◌≡◌, ℕ, suc, ◌+◌, ◌<◌, ◌≤◌, false, List, ◌∷◌, ◌++◌, length, Some, None, refl, sym, ap, ◌∙◌, arith, length-append}
use Rattle.std.proofs.lemmas.Bool.{true≢false}
use Rattle.std.specs.Prelude.{get_or}
use Rattle.bus_base.specs.Samples.{sample_on, is_quiet}
use Rattle.bus_base.specs.declared.samples.Channel.{Channel}
use Rattle.bus_base.specs.declared.samples.Drive.TheVariants.{Silent}
use Rattle.bus_base.specs.declared.samples.Pair.{Pair}
use Rattle.bus_base.specs.declared.samples.Part.{Part}
use Rattle.bus_base.specs.declared.samples.Sample.{Sample}
use Rattle.bus_base.specs.declared.samples.Sample.TheVariants.{Plus, Minus, Quiet}
use Rattle.bus_words.specs.declared.word.Word.{Word}
use Rattle.bus_line.specs.Past.{quiet}
use Rattle.bus_line.specs.Channels.{on_channel}
use Rattle.bus_formats.specs.Plans.{StationData}
use Rattle.bus_formats.specs.declared.fault.Hit.{Hit}
use Rattle.bus_formats.specs.declared.form.Outcome.TheVariants.{Abandoned}
use Rattle.bus_model.specs.Attempts.{Begun, without_words}
use Rattle.bus_model.specs.Control.{so_far, drives_next}
use Rattle.bus_model.specs.Course.{Take, close, course}
use Rattle.bus_model.specs.Starts.{starts}
use Rattle.bus_model.specs.Strikes.{ShownAnswer, is_faded}
use Rattle.bus_law_control.specs.Abandoning.{AreKept}
use Rattle.bus_law_control.proofs.Answered.{kept-early, first-runs, first-silent, first-abandoned}
use Rattle.bus_law_parts.specs.Parts.{part_ticks, part_sample}
use Rattle.bus_law_parts.proofs.BrokenOff.{quiet-faded}
use Rattle.bus_law_stations.specs.Messages.{ShowsBurst}
use Rattle.bus_law_stations.specs.Silence.{AreTaken, AwaitsFirst}
use Rattle.bus_law_stations.proofs.StillStation.{always-taken}
use Rattle.bus_law_phases.specs.Answers.{BeginsAt, MayAbandon}
use Rattle.bus_law_phases.specs.PartRuns.{IsFirstOf}
use Rattle.bus_law_phases.specs.Scenarios.{Scenario, course_of}
use Rattle.bus_law_phases.proofs.AnswerHolding.{same-on, silent-on, ends-on}
use Rattle.bus_law_phases.proofs.Legs.{first-less}
use Rattle.bus_law_phases.proofs.PartRunning.{on-more}

-- after a sample that isn't quiet no tick in a row was quiet
none-quiet : (y : Sample) (past : List Sample) → is_quiet y ≡ false → quiet (y ∷ past) ≡ 0
none-quiet Plus past is = refl
none-quiet Minus past is = refl
none-quiet Quiet past is = absurd (true≢false is)

module _ (w : Scenario) (past : List Pair) (holder : StationData) (begun : Begun) (e n i : ℕ) (part : Part) (answer : ShownAnswer)
    (awaits : MayAbandon w past holder begun e) (begins : BeginsAt (length past) part answer)
    (waits : AwaitsFirst w.lag begun (on_channel begun.state.channel past) e) (is : begun.entry.item.abandon ≡ Some n)
    (when : suc i + length past ≡ e + n) (inside : suc i ≤ part_ticks answer.hits answer.sent.words) (heard : is_faded answer i ≡ false) where
  abbrev c : Channel
  c = begun.state.channel

  abbrev hits : List Hit
  hits = answer.hits

  abbrev words : List Word
  words = answer.sent.words

  abbrev before : List Take
  before = (so_far w.lag holder (starts w.plan holder) w.loads w.outside past).takes

  taken-before : AreTaken (length past) before
  taken-before = always-taken w.lag holder (starts w.plan holder) w.loads w.outside past

  -- the first ticks of the answer, before the one in which it is abandoned
  abbrev IsBefore : List Pair → Type 0
  IsBefore ticks = IsFirstOf w.lag c hits words ticks × (length ticks < suc i)

  fewer : (x : Pair) (ticks : List Pair) → IsBefore (x ∷ ticks) → IsBefore ticks
  fewer x ticks so = (first-less w.lag c hits words x ticks so.0, (let few = so.1 in omega (arith, few)))

  shows : (ticks : List Pair) → IsFirstOf w.lag c hits words ticks → ShowsBurst w.lag c past ticks
  shows ticks first = record { rests = awaits.rests; leg = first.alone.leg }

  kept : (ticks : List Pair) → length ticks < suc i → AreKept begun e past ticks
  kept ticks few =
      let long : length (ticks ++ past) ≡ length ticks + length past = length-append ticks past in
      kept-early begun past ticks e n is (omega (arith, long, few, when))

  still : (ticks : List Pair) → IsBefore ticks → course w.lag holder (starts w.plan holder) before (ticks ++ past) ≡ course_of w holder past
  still ticks so =
      first-runs w.lag holder (starts w.plan holder) before past begun e taken-before awaits.answered waits ticks (shows ticks so.0) (kept ticks so.1)

  -- until then nothing changes of its controller, and it sends nothing
  pub waiting-same : (ticks : List Pair) → IsFirstOf w.lag begun.state.channel answer.hits answer.sent.words ticks → length ticks < suc i →
      course_of w holder (ticks ++ past) ≡ course_of w holder past
  waiting-same ticks first few = same-on w past holder IsBefore fewer awaits.holds still ticks (first, few)

  pub waiting-silent : (ticks : List Pair) → IsFirstOf w.lag begun.state.channel answer.hits answer.sent.words ticks → length ticks < suc i →
      drives_next w.lag holder (starts w.plan holder) w.loads w.outside (ticks ++ past) ≡ Silent
  waiting-silent ticks first few =
      silent-on w past holder IsBefore fewer awaits.holds still ticks (first, few)
      (first-silent w.lag holder (starts w.plan holder) before past begun e taken-before awaits.answered waits ticks (shows ticks first) (kept ticks few))

  -- the sample of that tick isn't quiet
  sample-heard : (x : Pair) (ticks : List Pair) → IsFirstOf w.lag c hits words (x ∷ ticks) → length ticks ≡ i →
      quiet (on_channel c ((x ∷ ticks) ++ past)) ≡ 0
  sample-heard x ticks first last =
      let sample : sample_on x c ≡ part_sample hits words (length ticks) = ap (λ xs. get_or xs 0 Plus) (sym (on-more c x ticks) ∙ first.shown) in
      let loud : is_quiet (sample_on x c) ≡ false =
      ap is_quiet sample ∙ quiet-faded part answer (length ticks) begins.fits (omega (arith, last, inside)) ∙ ap (is_faded answer) last ∙ heard in
      ap quiet (on-more c x (ticks ++ past)) ∙ none-quiet (sample_on x c) (on_channel c (ticks ++ past)) loud

  pub waiting-closes : (x : Pair) (ticks : List Pair) → IsFirstOf w.lag begun.state.channel answer.hits answer.sent.words (x ∷ ticks) →
      length ticks ≡ i →
      course_of w holder (x ∷ (ticks ++ past)) ≡ close (course_of w holder past) begun (without_words Abandoned None None) (length (ticks ++ past))
  waiting-closes x ticks first last =
      let long : length ((x ∷ ticks) ++ past) ≡ length (x ∷ ticks) + length past = length-append (x ∷ ticks) past in
      let less = first-less w.lag c hits words x ticks first in
      let few : length ticks < suc i = omega (arith, last) in
      ends-on w past holder IsBefore fewer awaits.holds still x ticks (less, few)
      (close (course_of w holder past) begun (without_words Abandoned None None) (length (ticks ++ past)))
      (first-abandoned w.lag holder (starts w.plan holder) before past begun e taken-before awaits.answered waits x ticks n (shows (x ∷ ticks) first)
      (kept ticks few) is (omega (arith, long, last, when)) (sample-heard x ticks first last)) refl
