-- The tick in which an answer is abandoned: its message is closed, and nothing else comes to pass.
use Rattle.std.proofs.Common.{◌≡◌, ◌≢◌, inl, inr, ℕ, suc, ◌+◌, ◌<◌, ◌≤◌, true, List, [], ◌∷◌, ◌++◌, length, Some, None, sym, ap, ◌∙◌, subst, arith, length-append}
use Rattle.std.proofs.lemmas.Bool.{cases_lt}
use Rattle.std.proofs.lemmas.List.{append-nil}
use Rattle.std.specs.Prelude.{slice_get, flat_map, ◌==◌}
use Rattle.bus_base.specs.Samples.{other_of}
use Rattle.bus_base.specs.declared.samples.Channel.{Channel}
use Rattle.bus_base.specs.declared.samples.Pair.{Pair}
use Rattle.bus_base.specs.declared.samples.Part.{Part}
use Rattle.bus_words.specs.declared.word.Word.{Word}
use Rattle.bus_line.specs.Channels.{bursts}
use Rattle.bus_formats.specs.Plans.{StationData}
use Rattle.bus_formats.specs.declared.fault.Hit.{Hit}
use Rattle.bus_formats.specs.declared.form.Outcome.TheVariants.{Abandoned}
use Rattle.bus_formats.specs.declared.log.Attempt.{Attempt}
use Rattle.bus_model.specs.Attempts.{Begun, Ended, without_words}
use Rattle.bus_model.specs.Control.{yielded_in, so_far}
use Rattle.bus_model.specs.Course.{Course, close}
use Rattle.bus_model.specs.Starts.{starts}
use Rattle.bus_model.specs.World.{Trace, is_present}
use Rattle.bus_model.specs.WorldLog.{present_stations, ended_by, attempts}
use Rattle.bus_law_control.proofs.Holding.{ended-before, heard-nothing, yielded-before}
use Rattle.bus_law_messages.proofs.Closing.{and-not}
use Rattle.bus_law_stations.specs.Turns.{KeepsControl}
use Rattle.bus_law_table.specs.Happened.{took_in, blocks_in as blocks_now, blocks_found}
use Rattle.bus_law_table.proofs.Pairing.{none-each}
use Rattle.bus_law_table.proofs.Takes.{unheard-takes}
use Rattle.bus_law_table.proofs.Ticks.{leg-bursts}
use Rattle.bus_law_phases.specs.Answers.{attempts_ended}
use Rattle.bus_law_phases.specs.Commands.{attempt_recorded}
use Rattle.bus_law_phases.specs.PartRuns.{IsFirstOf}
use Rattle.bus_law_phases.specs.Passages.{HoldsAlone, IsOrderly, Passage}
use Rattle.bus_law_phases.specs.Scenarios.{Scenario, shown_at, driven_at, blocks_in, attempts_in, commands_in, course_of, IsPresentAt}
use Rattle.bus_law_phases.proofs.AnswerHolders.{closed-attempts}
use Rattle.bus_law_phases.proofs.AnswerLeft.{took-none}
use Rattle.bus_law_phases.proofs.Commanding.{by-place}
use Rattle.bus_law_phases.proofs.Kept.{kept-more}
use Rattle.bus_law_phases.proofs.Legs.{first-less}
use Rattle.bus_law_phases.proofs.Resting.{each-present, no-attempt}
use Rattle.bus_law_phases.proofs.Spares.{one-gives}
use Rattle.bus_law_abandoned.proofs.Others.{others-same, others-take, others-serve}
use Rattle.bus_law_abandoned.proofs.Running.{RunsFor, RanFor}
use Rattle.bus_law_phases.proofs.Staying.{long-at}

-- ---- one tick more, in which no burst ends and no block is taken

module _ (w : Scenario) (t i : ℕ) (x : Pair) (before : List Pair) (ended : List Attempt)
    (leg : Passage w t (t + i) record { blocks = []; bursts = []; attempts = []; commands = 0 })
    (shown : shown_at w (t + i) ≡ before) (then_shown : shown_at w (t + suc i) ≡ x ∷ before)
    (took : blocks_now w.lag w.plan w.loads w.outside w.absent (x ∷ before) (length before) ≡ [])
    (ends : bursts w.lag (x ∷ before) ≡ bursts w.lag (shown_at w t))
    (closes : flat_map (ended_by w.lag w.plan w.loads w.outside w.absent (x ∷ before) (length before))
    (present_stations w.lag w.plan w.loads w.outside w.absent) ≡ ended)
    (counted : commands_in w (driven_at w (t + suc i)) ≡ commands_in w (driven_at w t) + 0) (last : IsOrderly w (t + i)) where
  blocks-then : blocks_in w (x ∷ before) ≡ blocks_in w (shown_at w t) ++ []
  unfolding blocks_found
  blocks-then =
      ap (λ bs. blocks_in w before ++ bs) took
      ∙ ap (λ p. blocks_in w p ++ []) (sym shown)
      ∙ ap (λ bs. bs ++ []) (leg.blocks_are ∙ append-nil (blocks_in w (shown_at w t)))

  attempts-then : attempts_in w (x ∷ before) ≡ attempts_in w (shown_at w t) ++ ended
  unfolding attempts
  attempts-then =
      ap (λ xs. attempts_in w before ++ xs) closes
      ∙ ap (λ p. attempts_in w p ++ ended) (sym shown)
      ∙ ap (λ xs. xs ++ ended) (leg.attempts_are ∙ append-nil (attempts_in w (shown_at w t)))

  orderly-then : (j : ℕ) → t ≤ j → j < t + suc i → IsOrderly w j
  orderly-then j low high = elim (cases_lt j (t + i)) [
    | inl early ↦ leg.orderly j low early
    | inr late ↦ (let same : t + i ≡ j = omega (arith, late, high) in subst (IsOrderly w) same last)
  ]

  tick-passes : Passage w t (t + suc i) record { blocks = []; bursts = []; attempts = ended; commands = 0 }
  tick-passes = record {
    later = omega arith;
    blocks_are = ap (λ p. blocks_in w p) then_shown ∙ blocks-then;
    bursts_are = ap (bursts w.lag) then_shown ∙ ends ∙ sym (append-nil (bursts w.lag (shown_at w t)));
    attempts_are = ap (λ p. attempts_in w p) then_shown ∙ attempts-then;
    counted = counted;
    orderly = orderly-then;
  }

-- ---- the tick in which it is abandoned

module _ (w : Scenario) (t place : ℕ) (holder : StationData) (c : Channel) (part : Part) (words : List Word) (hits : List Hit) (answerer : ℕ)
    (answering : StationData) (i : ℕ) (begun : Begun)
    (so : RunsFor w t place holder c part words hits answerer answering i
    (close (course_of w holder (shown_at w t)) begun (without_words Abandoned None None) (t + i)))
    (ran : RanFor w t (record { station = answerer; channel = c; part = part; words = words }) hits i) where
  abbrev past : List Pair
  past = shown_at w t

  abbrev ended : Ended
  ended = without_words Abandoned None None

  abbrev closed : Course
  closed = close (course_of w holder past) begun ended (t + i)

  abbrev x : Pair
  x = ran.newest

  abbrev ticks : List Pair
  ticks = ran.ticks

  abbrev later : List Pair
  later = (x ∷ ticks) ++ past

  -- the number of the newest tick
  number : length (ticks ++ past) ≡ t + i
  number =
      let count : length (ticks ++ past) ≡ length ticks + length past = length-append ticks past in
      let many = ran.many in let long = long-at w t so.stays in omega (arith, count, many, long)

  pub course-closed : course_of w holder ((ran.newest ∷ ran.ticks) ++ shown_at w t) ≡ close (course_of w holder (shown_at w t)) begun (without_words Abandoned None None) (t + i)
  course-closed = so.closes x ticks ran.all ran.many

  holds-later : (course_of w holder later).holds ≡ true
  holds-later = ap (λ (d : Course). d.holds) course-closed

  same-later : (other : ℕ) (station : StationData) → IsPresentAt w other station → other ≢ place → course_of w station later ≡ course_of w station past
  same-later = others-same w past place c part words answerer answering so.lag so.speaks (x ∷ ticks) ran.all.alone

  -- ---- control is kept

  keeps-to : (ts : List Pair) → IsFirstOf w.lag c hits words ts → length ts < suc i →
      KeepsControl w.lag holder (starts w.plan holder) w.loads w.outside past ts
  keeps-to [] first few = tt
  keeps-to (y ∷ ts) first few =
      let less = first-less w.lag c hits words y ts first in
      let fewer : length ts < suc i = omega (arith, few) in
      let long : length (ts ++ past) ≡ length ts + length past = length-append ts past in
      kept-more w.lag holder (starts w.plan holder) w.loads w.outside past ts (keeps-to ts less fewer) y
      (ap (λ (d : Course). d.holds) (so.same ts less fewer) ∙ so.holds)
      (ap (λ (d : Course). yielded_in (length (ts ++ past)) d.ended) (so.same (y ∷ ts) first few)
      ∙ yielded-before w.lag holder (starts w.plan holder) (so_far w.lag holder (starts w.plan holder) w.loads w.outside past).takes past
      (length (ts ++ past)) (omega (arith, long)))

  pub kept-all : KeepsControl w.lag holder (starts w.plan holder) w.loads w.outside (shown_at w t) (ran.newest ∷ ran.ticks)
  kept-all =
      let many = ran.many in
      let few : length ticks < suc i = omega (arith, many) in
      kept-more w.lag holder (starts w.plan holder) w.loads w.outside past ticks (keeps-to ticks ran.first few) x
      (ap (λ (d : Course). d.holds) (so.same ticks ran.first few) ∙ so.holds)
      (ap (λ (d : Course). yielded_in (length (ticks ++ past)) d.ended) course-closed ∙ and-not (t + i == length (ticks ++ past)))

  -- ---- what came to pass

  abbrev TookNone : StationData → Type 0
  TookNone station = took_in w.lag w.plan w.loads w.outside w.absent (x ∷ (ticks ++ past)) (length (ticks ++ past)) station ≡ None

  takes-none : (other : ℕ) (station : StationData) → IsPresentAt w other station → TookNone station
  takes-none =
      by-place w TookNone place holder so.at
      (took-none w (x ∷ (ticks ++ past)) (length (ticks ++ past)) holder
      (unheard-takes w.lag holder (starts w.plan holder) w.loads w.outside x (ticks ++ past)
      (heard-nothing w.lag holder (starts w.plan holder) w.loads w.outside (x ∷ (ticks ++ past)) holds-later)))
      (λ other station at away. took-none w (x ∷ (ticks ++ past)) (length (ticks ++ past)) station
      (others-take w past place c part words answerer answering so.lag so.speaks x ticks ran.all.alone other station at away))

  blocks-none : blocks_now w.lag w.plan w.loads w.outside w.absent (x ∷ (ticks ++ past)) (length (ticks ++ past)) ≡ []
  blocks-none =
      none-each TookNone (took_in w.lag w.plan w.loads w.outside w.absent (x ∷ (ticks ++ past)) (length (ticks ++ past)))
      (present_stations w.lag w.plan w.loads w.outside w.absent) (each-present w past TookNone takes-none) (λ st is. is)

  bursts-same : bursts w.lag (x ∷ (ticks ++ past)) ≡ bursts w.lag past
  bursts-same = leg-bursts w.lag c (x ∷ ticks) past (so.rests (other_of c)) ran.all.alone.leg ran.all.alone.quiet

  others-end : (other : ℕ) (station : StationData) → slice_get w.plan.stations other ≡ Some station → other ≢ place →
      is_present w.absent station ≡ true →
      ended_by w.lag w.plan w.loads w.outside w.absent (x ∷ (ticks ++ past)) (length (ticks ++ past)) station ≡ []
  others-end other station there away present =
      let count : length (ticks ++ past) ≡ length ticks + length past = length-append ticks past in
      ap (attempts_ended w station (length (ticks ++ past))) (same-later other station record { there = there; present = present } away)
      ∙ no-attempt w station.terminal.address (length (ticks ++ past)) (length past) (course_of w station past).ended (omega (arith, count))
      (ended-before w.lag station (starts w.plan station) (so_far w.lag station (starts w.plan station) w.loads w.outside past).takes past)

  closes-one : flat_map (ended_by w.lag w.plan w.loads w.outside w.absent (x ∷ (ticks ++ past)) (length (ticks ++ past)))
      (present_stations w.lag w.plan w.loads w.outside w.absent) ≡ attempt_recorded holder.terminal.address begun ended (t + i) ∷ []
  closes-one =
      one-gives (is_present w.absent) (ended_by w.lag w.plan w.loads w.outside w.absent (x ∷ (ticks ++ past)) (length (ticks ++ past))) w.plan.stations place
      holder so.at.there so.at.present others-end
      ∙ ap (attempts_ended w holder (length (ticks ++ past))) course-closed
      ∙ ap (λ n. attempts_ended w holder n closed) number
      ∙ closed-attempts w holder (course_of w holder past) begun ended (t + i)

  held-then : HoldsAlone w later
  held-then = record {
    place = place;
    holder = holder;
    at = so.at;
    holds = holds-later;
    others = others-serve w past place c part words answerer answering so.lag so.speaks (x ∷ ticks) ran.all.alone;
  }

  then-shown : shown_at w (t + suc i) ≡ (x ∷ ticks) ++ past
  then-shown = ap (λ (tr : Trace). tr.shown) ran.trace

  last : IsOrderly w (t + i)
  last =
      let next : t + suc i ≡ suc (t + i) = omega arith in record {
        alone = ran.drives;
        hands = inl (subst (λ u. HoldsAlone w (shown_at w u)) next (subst (HoldsAlone w) (sym then-shown) held-then));
        goes_on = ran.goes_on;
      }

  pub passes : Passage w t (t + suc i) record {
    blocks = [];
    bursts = [];
    attempts = attempt_recorded holder.terminal.address begun (without_words Abandoned None None) (t + i) ∷ [];
    commands = 0;
  }
  passes =
      tick-passes w t i x (ticks ++ past) (attempt_recorded holder.terminal.address begun ended (t + i) ∷ []) ran.passed ran.before then-shown blocks-none
      bursts-same closes-one ran.counted last
