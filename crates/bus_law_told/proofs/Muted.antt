-- An answer of which nothing is shown, from the tick in which it is due on.
use Rattle.std.proofs.Common.{◌≡◌, ◌≢◌, ℕ, suc, ◌+◌, false, List, [], ◌∷◌, ◌++◌, map, Some, None, refl, ap, ◌∙◌, subst, arith, All}
use Rattle.std.proofs.lemmas.List.Elements.{All-head, All-tail, All-nil, All-cons}
use Rattle.bus_base.specs.Samples.{quiet_pairs}
use Rattle.bus_base.specs.declared.samples.Part.{Part}
use Rattle.bus_base.specs.declared.samples.Part.TheVariants.{Command}
use Rattle.bus_formats.specs.Accepted.{IsAccepted}
use Rattle.bus_formats.specs.Plans.{StationData}
use Rattle.bus_model.specs.Course.{Course, quiet_from}
use Rattle.bus_model.specs.Message.{Present, After, answer_to}
use Rattle.bus_model.specs.Orders.{Duty, free, owes, promises}
use Rattle.bus_model.specs.Standing.{is_owed, is_promise}
use Rattle.bus_model.specs.Strikes.{hits_on, ShownBurst, burst_end, Answer, shown_answer}
use Rattle.bus_law_stations.specs.Silence.{NothingStarts}
use Rattle.bus_law_phases.specs.Answers.{IsStatusWithData}
use Rattle.bus_law_phases.specs.Closings.{HasItemsOf}
use Rattle.bus_law_phases.specs.Moments.{Underway}
use Rattle.bus_law_phases.specs.Mutes.{IsMute, answered_by, answered}
use Rattle.bus_law_phases.specs.Passages.{Happening, Passage, nothing_happens}
use Rattle.bus_law_phases.specs.Scenarios.{Scenario, trace_at, shown_at, driven_at, commands_in, course_of, StaysFrom}
use Rattle.bus_law_phases.specs.Silences.{GoesOnTo}
use Rattle.bus_law_phases.proofs.AnswerBegun.{answer-fits}
use Rattle.bus_law_phases.proofs.MutePhase.{mute-passes}
use Rattle.bus_law_phases.proofs.Passing.{joined}
use Rattle.bus_law_told.proofs.Coming.{Came, nothing-after}
use Rattle.bus_law_phases.proofs.Staying.{stays-later}

-- ---- that an answer is over changes no station

answered-keeps : (P : After → Type 0) → ((a b : After) → a.station ≡ b.station → P a → P b) → (after : After) (duty : Duty) → P after → P (answered_by after duty)
answered-keeps P alike after free is = is
answered-keeps P alike after (owes words acceptance) is = alike after (record after { duty = free }) refl is
answered-keeps P alike after (promises command transmitter) is = is

all-answered-keep : (P : After → Type 0) → ((a b : After) → a.station ≡ b.station → P a → P b) → (afters : List After) → All P afters →
    All P (map answered afters)
all-answered-keep P alike [] all = All-nil P
all-answered-keep P alike (a ∷ rest) all =
    All-cons P (answered a) (map answered rest) (answered-keeps P alike a a.duty (All-head P a rest all))
    (all-answered-keep P alike rest (All-tail P a rest all))

answered-station : (after : After) (duty : Duty) → (answered_by after duty).station ≡ after.station
answered-station after free = refl
answered-station after (owes words acceptance) = refl
answered-station after (promises command transmitter) = refl

pub answered-stations : (afters : List After) → map (λ a. a.station) (map answered afters) ≡ map (λ a. a.station) afters
answered-stations [] = refl
answered-stations (a ∷ rest) =
    ap (λ st. st ∷ map (λ b. b.station) (map answered rest)) (answered-station a a.duty) ∙ ap (λ sts. a.station ∷ sts) (answered-stations rest)

-- where nobody promised anything all are free then
answered-free : (after : After) (duty : Duty) → after.duty ≡ duty → is_promise duty ≡ false → (answered_by after duty).duty ≡ free
answered-free after free same kept = same
answered-free after (owes words acceptance) same kept = refl
answered-free after (promises command transmitter) same kept = absurd (cc kept)

pub all-answered-free : (afters : List After) → All (λ a. is_promise a.duty ≡ false) afters → All (λ a. a.duty ≡ free) (map answered afters)
all-answered-free [] kept = All-nil (λ a. a.duty ≡ free)
all-answered-free (a ∷ rest) kept =
    All-cons (λ a. a.duty ≡ free) (answered a) (map answered rest)
    (answered-free a a.duty refl (All-head (λ a. is_promise a.duty ≡ false) a rest kept))
    (all-answered-free rest (All-tail (λ a. is_promise a.duty ≡ false) a rest kept))

module _ (w : Scenario) (t place : ℕ) (holder : StationData) (c0 : Course) (none : StaysFrom w t) (lag : w.lag ≡ 3) (accepted : IsAccepted w.plan)
    (u : ℕ) (burst : ShownBurst) (part : Part) (afters : List After) (h : Happening)
    (came : Came w t place holder c0 u burst.channel (burst_end burst) part afters h) (answer : Answer) (found : answer_to burst afters ≡ Some answer)
    (now : answer.start ≡ u)
    (mute : shown_answer (hits_on w.plan.faults (suc (commands_in w (driven_at w t))) part) (answer_to burst afters) ≡ None)
    (counted-one : h.commands ≡ 1) (words : IsStatusWithData answer) (part-is : part ≢ Command)
    (idle : NothingStarts w.lag (course_of w holder (shown_at w u)) (shown_at w u) (suc w.lag)) (goes : GoesOnTo w (shown_at w u) (u + suc w.lag)) where
  numbered : suc (commands_in w (driven_at w t)) ≡ commands_in w (driven_at w u)
  numbered = let grew = came.passage.counted in omega (arith, grew, counted-one)

  is-mute : IsMute w u place holder part burst afters answer
  is-mute = record {
    moment = came.moment;
    part_is = part-is;
    found = found;
    due = now;
    mute = subst (λ n. shown_answer (hits_on w.plan.faults n part) (answer_to burst afters) ≡ None) numbered mute;
    fits = answer-fits w.plan (commands_in w (driven_at w u)) part answer accepted words;
  }

  over : (shown_at w (u + suc w.lag) ≡ quiet_pairs (suc w.lag) ++ shown_at w u)
      × Underway w (trace_at w (u + suc w.lag)) place holder burst.channel (burst_end burst) part (map answered afters)
      × All (λ after. is_owed after.duty ≡ false) (map answered afters)
      × (course_of w holder (shown_at w (u + suc w.lag)) ≡ course_of w holder (shown_at w u))
      × (quiet_from (shown_at w (u + suc w.lag)) ≡ quiet_from (shown_at w u)) × Passage w u (u + suc w.lag) nothing_happens
  over = mute-passes w u place holder part burst afters answer lag accepted (stays-later w t u came.passage.later none) is-mute idle goes

  pub muted-came : Came w t place holder c0 (u + suc w.lag) burst.channel (burst_end burst) part (map answered afters) h
  muted-came = record {
    moment = over.1;
    passage = subst (Passage w t (u + suc w.lag)) (nothing-after h) (joined w t u (u + suc w.lag) h nothing_happens came.passage over.5);
    quiet = over.4 ∙ came.quiet;
    items = all-answered-keep (HasItemsOf holder c0)
        (λ a b same has is. subst (λ (st : Present). (st.left ≡ c0.left) × (st.live ≡ c0.live)) same (has (ap (λ (st : Present). st.plan) same ∙ is))) afters came.items;
  }

  pub muted-unowed : All (λ after. is_owed after.duty ≡ false) (map answered afters)
  muted-unowed = over.2

  pub muted-course : course_of w holder (shown_at w (u + suc w.lag)) ≡ course_of w holder (shown_at w u)
  muted-course = over.3

  pub muted-shown : shown_at w (u + suc w.lag) ≡ quiet_pairs (suc w.lag) ++ shown_at w u
  muted-shown = over.0
