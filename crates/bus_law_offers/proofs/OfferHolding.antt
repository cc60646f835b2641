-- A station that offered control beside the answer: with the end of it its message is passed, or it doubts.
use Rattle.std.proofs.Common.{◌≡◌, inl, inr, ℕ, suc, ◌+◌, ◌<◌, Bool, true, false, List, ◌∷◌, ◌++◌, length, Option, None, refl, ap, ◌∙◌, arith, length-append}
use Rattle.bus_base.specs.declared.samples.Channel.{Channel}
use Rattle.bus_base.specs.declared.samples.Pair.{Pair}
use Rattle.bus_base.specs.declared.samples.Part.{Part}
use Rattle.bus_base.specs.declared.samples.Part.TheVariants.{First}
use Rattle.bus_words.specs.declared.word.Word.{Word}
use Rattle.bus_line.specs.Past.{Burst, end_of, rest_of}
use Rattle.bus_line.specs.Channels.{on_channel}
use Rattle.bus_formats.specs.Plans.{StationData}
use Rattle.bus_formats.specs.Readings.{read_answer}
use Rattle.bus_formats.specs.Times.{doubting}
use Rattle.bus_formats.specs.declared.fault.Hit.{Hit}
use Rattle.bus_formats.specs.declared.form.Outcome.TheVariants.{BadReply, Passed}
use Rattle.bus_formats.specs.declared.form.Reading.TheVariants.{Ends}
use Rattle.bus_model.specs.Attempts.{Begun, Ended, without_words, is_offer}
use Rattle.bus_model.specs.Control.{StationSoFar, so_far, yielded_in}
use Rattle.bus_model.specs.Controller.{read_ending, first_read}
use Rattle.bus_model.specs.Course.{Take, Course, course, close, close_or_run}
use Rattle.bus_model.specs.Endings.{abandoned_at}
use Rattle.bus_model.specs.Starts.{starts}
use Rattle.bus_model.specs.Strikes.{burst_end, ShownAnswer}
use Rattle.bus_law_control.specs.Offers.{IsDoubting}
use Rattle.bus_law_control.specs.Silent.{StaysSilent}
use Rattle.bus_law_control.proofs.Answered.{reply-read, first-read}
use Rattle.bus_law_control.proofs.Doubting.{doubt-begins, station-doubts}
use Rattle.bus_law_control.proofs.Endings.{later-end}
use Rattle.bus_law_control.proofs.Holding.{heard-nothing, yielded-before}
use Rattle.bus_law_control.proofs.Passing.{closed-now}
use Rattle.bus_law_control.proofs.SilentHolder.{first-shown, kept-then, hears-then, course-then}
use Rattle.bus_law_offers.specs.Passing.{HolderLeft, HoldsToEnd}
use Rattle.bus_law_phases.specs.Answers.{burst_read, ShowsWhole, BeginsAt, MayAbandon, HoldsBesideShown}
use Rattle.bus_law_phases.specs.PartRuns.{IsFirstOf}
use Rattle.bus_law_phases.specs.Scenarios.{Scenario, course_of}
use Rattle.bus_law_phases.proofs.AnswerKept.{all-kept}
use Rattle.bus_law_stations.specs.Messages.{ShowsBurst}
use Rattle.bus_law_stations.specs.Silence.{AreTaken, AwaitsFirst}
use Rattle.bus_law_stations.proofs.StillStation.{always-taken}
use Rattle.bus_law_table.proofs.Takes.{unheard-on}

module _ (w : Scenario) (past : List Pair) (holder : StationData) (begun : Begun) (e : ℕ) (answer : ShownAnswer)
    (awaits : MayAbandon w past holder begun e) (begins : BeginsAt (length past) First answer)
    (never : abandoned_at w.lag begun.entry.item.kind begun.entry.item.abandon e answer ≡ None)
    (waits : AwaitsFirst w.lag begun (on_channel begun.state.channel past) e) where
  abbrev c : Channel
  c = begun.state.channel

  abbrev hits : List Hit
  hits = answer.hits

  abbrev words : List Word
  words = answer.sent.words

  abbrev burst : Burst
  burst = burst_read answer.burst

  abbrev before : List Take
  before = (so_far w.lag holder (starts w.plan holder) w.loads w.outside past).takes

  taken-before : AreTaken (length past) before
  taken-before = always-taken w.lag holder (starts w.plan holder) w.loads w.outside past

  shows : (ticks : List Pair) → IsFirstOf w.lag c hits words ticks → ShowsBurst w.lag c past ticks
  shows ticks first = record { rests = awaits.rests; leg = first.alone.leg }

  -- while the answer runs it waits
  silent-for : (ticks : List Pair) → IsFirstOf w.lag c hits words ticks → StaysSilent w.lag holder (starts w.plan holder) w.loads w.outside past ticks
  silent-for ticks first =
      first-shown w.lag holder (starts w.plan holder) w.loads w.outside past awaits.holds begun awaits.answered.runs e awaits.answered.prompt waits ticks
      (shows ticks first) (all-kept w past holder begun e First answer awaits begins never ticks first)

  -- with one tick more it is left so, where it doesn't yield in it
  left-so : (d : Course) (x : Pair) (ticks : List Pair) → IsFirstOf w.lag c hits words ticks →
      course w.lag holder (starts w.plan holder) before (x ∷ (ticks ++ past)) ≡ d → yielded_in (length (ticks ++ past)) d.ended ≡ false →
      HolderLeft w past (x ∷ (ticks ++ past)) holder d
  left-so d x ticks first is kept =
      let stays = silent-for ticks first in
      let keeps = kept-then w.lag holder (starts w.plan holder) w.loads w.outside past ticks awaits.holds stays x d is kept in
      let hears = hears-then w.lag holder (starts w.plan holder) w.loads w.outside past ticks awaits.holds stays x d is kept in record {
        course = course-then w.lag holder (starts w.plan holder) w.loads w.outside past ticks awaits.holds stays x d is kept;
        nothing = unheard-on w.lag holder (starts w.plan holder) w.loads w.outside past (x ∷ ticks)
            (heard-nothing w.lag holder (starts w.plan holder) w.loads w.outside past awaits.holds) keeps;
        memory = ap (λ (so : StationSoFar). so.hearing.memory) hears;
      }

  read-so : (x : Pair) (ticks : List Pair) → IsFirstOf w.lag c hits words ticks → ShowsWhole w.lag c burst past x ticks →
      course w.lag holder (starts w.plan holder) before (x ∷ (ticks ++ past)) ≡ close_or_run (course_of w holder past) begun (length (ticks ++ past))
      (first_read w.lag begun.entry.item (x ∷ (ticks ++ past)) (on_channel begun.state.channel (x ∷ (ticks ++ past))) burst
      (read_answer begun.entry.item.kind First burst.slots (rest_of burst)))
  read-so x ticks first shown =
      first-read w.lag holder (starts w.plan holder) before past begun e taken-before awaits.answered waits ticks x burst (shows ticks first)
      (all-kept w past holder begun e First answer awaits begins never ticks first) shown.ended

  -- ---- the offer was accepted

  module _ (status : Option ℕ) (reads : read_answer begun.entry.item.kind First answer.burst.slots (rest_of (burst_read answer.burst)) ≡ Ends Passed status) where
    abbrev ended : Ended
    ended = without_words Passed status None

    passed-by : (offer : Bool) (x : Pair) (ticks : List Pair) →
        close_or_run (course_of w holder past) begun (length (ticks ++ past))
        (read_ending w.lag begun.entry.item (x ∷ (ticks ++ past)) (on_channel begun.state.channel (x ∷ (ticks ++ past))) burst offer Passed status)
        ≡ close (course_of w holder past) begun (without_words Passed status None) (length (ticks ++ past))
    passed-by true x ticks = refl
    passed-by false x ticks = refl

    pub holds-passing : HoldsToEnd w past holder begun.state.channel answer.hits answer.sent.words (burst_read answer.burst)
        (close (course_of w holder past) begun ended (burst_end answer.burst + w.lag))
    holds-passing = record {
      same = λ ticks first. (silent-for ticks first).same;
      silent = λ ticks first. (silent-for ticks first).silent;
      then_is = λ x ticks first shown.
          left-so (close (course_of w holder past) begun ended (burst_end answer.burst + w.lag)) x ticks first
          (read-so x ticks first shown
          ∙ ap (λ r. close_or_run (course_of w holder past) begun (length (ticks ++ past))
          (first_read w.lag begun.entry.item (x ∷ (ticks ++ past)) (on_channel begun.state.channel (x ∷ (ticks ++ past))) burst r)) reads
          ∙ passed-by (is_offer begun.entry.item.kind) x ticks
          ∙ ap (close (course_of w holder past) begun ended) shown.known)
          (ap (λ n. yielded_in n (close (course_of w holder past) begun ended (burst_end answer.burst + w.lag)).ended) shown.known
          ∙ closed-now (course_of w holder past) begun ended (burst_end answer.burst + w.lag));
      decides = inl refl;
    }

  -- ---- it was answered badly

  module _ (part : Part) (status : Option ℕ) (offers : is_offer begun.entry.item.kind ≡ true)
      (reads : read_answer begun.entry.item.kind First answer.burst.slots (rest_of (burst_read answer.burst)) ≡ Ends (BadReply part) status)
      (small : suc w.lag < doubting) where
    begins-to : (x : Pair) (ticks : List Pair) → IsFirstOf w.lag c hits words ticks → ShowsWhole w.lag c burst past x ticks →
        (course w.lag holder (starts w.plan holder) before (x ∷ (ticks ++ past)) ≡ course w.lag holder (starts w.plan holder) before past)
        × IsDoubting w.lag begun (on_channel begun.state.channel (x ∷ (ticks ++ past))) (end_of burst)
    begins-to x ticks first shown =
        let since = shown.quiet in
        doubt-begins w.lag holder (starts w.plan holder) before past ticks x begun e burst part status small taken-before awaits.answered waits (shows ticks first)
        (all-kept w past holder begun e First answer awaits begins never ticks first) shown.ended offers reads (omega (arith, since))

    still : (x : Pair) (ticks : List Pair) → IsFirstOf w.lag c hits words ticks → ShowsWhole w.lag c burst past x ticks →
        HolderLeft w past (x ∷ (ticks ++ past)) holder (course_of w holder past)
    still x ticks first shown =
        let long : length (ticks ++ past) ≡ length ticks + length past = length-append ticks past in
        left-so (course_of w holder past) x ticks first (begins-to x ticks first shown).0
        (yielded-before w.lag holder (starts w.plan holder) before past (length (ticks ++ past)) (omega (arith, long)))

    -- it doubts then
    pub doubts-whole : (x : Pair) (ticks : List Pair) → ShowsWhole w.lag begun.state.channel (burst_read answer.burst) past x ticks →
        IsDoubting w.lag begun (on_channel begun.state.channel (x ∷ (ticks ++ past))) (end_of (burst_read answer.burst))
    doubts-whole x ticks shown = record {
      offers = offers;
      command_end = e;
      ended = later-end w.lag begun.state.channel past (x ∷ ticks) begun.start e waits.ended;
      shape = waits.shape;
      expects = waits.expects;
      burst = burst;
      answered = reply-read w.lag holder (starts w.plan holder) before past begun e taken-before awaits.answered (inl waits) x ticks burst
          record { rests = awaits.rests; leg = shown.alone.leg } shown.ended;
      part = part;
      status = status;
      bad = reads;
      end = refl;
    }

    pub holds-doubting : HoldsToEnd w past holder begun.state.channel answer.hits answer.sent.words (burst_read answer.burst) (course_of w holder past)
    holds-doubting = record {
      same = λ ticks first. (silent-for ticks first).same;
      silent = λ ticks first. (silent-for ticks first).silent;
      then_is = still;
      decides = inr (λ x ticks first shown.
          station-doubts w.lag holder (starts w.plan holder) w.loads w.outside (x ∷ (ticks ++ past)) begun (end_of burst)
          (ap (λ (d : Course). d.runs) (still x ticks first shown).course ∙ awaits.answered.runs) (begins-to x ticks first shown).1);
    }

    -- likewise beside an answer that declined
    pub beside-doubting : HoldsBesideShown w past holder begun.state.channel answer.hits answer.sent.words (burst_read answer.burst) (course_of w holder past)
    beside-doubting = record {
      same = λ ticks first. (silent-for ticks first).same;
      silent = λ ticks first. (silent-for ticks first).silent;
      then_is = λ x ticks first shown. (still x ticks first shown).course;
      kept = awaits.holds;
    }
