-- An answer that is shown, from the moment at which it is awaited to that in which its end is known.
use Rattle.std.proofs.Common.{◌≡◌, ◌≢◌, ℕ, suc, ◌+◌, ◌-◌, ◌≤◌, true, false, List, [], ◌∷◌, ◌++◌, get_or, map, Some, refl, sym, ◌∙◌, subst, arith, All, Contains}
use Rattle.std.proofs.lemmas.List.Elements.{All-contains_itself}
use Rattle.bus_base.specs.Samples.{quiet_pairs}
use Rattle.bus_base.specs.declared.samples.Part.{Part}
use Rattle.bus_base.specs.declared.samples.Part.TheVariants.{Command, Second}
use Rattle.bus_formats.specs.Accepted.{IsAccepted}
use Rattle.bus_formats.specs.Plans.{StationData}
use Rattle.bus_formats.specs.Times.{relay_wait}
use Rattle.bus_model.specs.Course.{Course}
use Rattle.bus_model.specs.Message.{After, answer_to, after_answer, blocks_taken}
use Rattle.bus_model.specs.Orders.{Duty, free, owes, promises, due_after}
use Rattle.bus_model.specs.Standing.{is_owed}
use Rattle.bus_model.specs.Strikes.{hits_on, ShownBurst, burst_end, Answer, ShownAnswer, shown_answer}
use Rattle.bus_law_duties.specs.Duties.{AtMostOneOwes}
use Rattle.bus_law_duties.proofs.Answering.{only-owed}
use Rattle.bus_law_stations.specs.Silence.{NothingStarts}
use Rattle.bus_law_phases.specs.Answers.{IsStatusWithData, AnswerBegins, burst_read, HoldsBesideShown, AnswerOver, attempts_ended}
use Rattle.bus_law_phases.specs.Moments.{DutyLasts, LastsTo}
use Rattle.bus_law_phases.specs.Passages.{Happening, followed_by}
use Rattle.bus_law_phases.specs.Scenarios.{Scenario, shown_at, driven_at, commands_in, course_of, StaysFrom}
use Rattle.bus_law_phases.specs.Silences.{GoesOnTo}
use Rattle.bus_law_phases.proofs.AnswerBegun.{owed-of}
use Rattle.bus_law_phases.proofs.AnswerPasses.{answer-passes-shown}
use Rattle.bus_law_phases.proofs.Passing.{joined}
use Rattle.bus_law_phases.proofs.SilencedItems.{items-answer}
use Rattle.bus_law_told.proofs.Coming.{Came, came-later, course-later, shown-later}
use Rattle.bus_law_phases.proofs.Staying.{stays-later}

-- ---- an answer that is owed is due when the table's answer starts

due-lasts : (u e : ℕ) (station : StationData) (duty : Duty) → (is_owed duty ≡ true → u ≤ due_after station.terminal e) → u ≤ e + relay_wait →
    DutyLasts u e station duty
due-lasts u e station free due soon = tt
due-lasts u e station (owes words acceptance) due soon = due refl
due-lasts u e station (promises command transmitter) due soon = soon

-- every duty lasts to the start of the answer
pub all-last-to : (burst : ShownBurst) (afters : List After) (answer : Answer) → AtMostOneOwes afters → answer_to burst afters ≡ Some answer →
    answer.start ≤ burst_end burst + relay_wait → All (LastsTo answer.start (burst_end burst)) afters
all-last-to burst afters answer one found soon = λ i d inside.
    let after : After = get_or afters i d in
    let held : Contains afters (get_or afters i d) = All-contains_itself afters i d inside in
    due-lasts answer.start (burst_end burst) (get_or afters i d).station.plan (get_or afters i d).duty
    (λ owed. let start : answer.start ≡ due_after (get_or afters i d).station.plan.terminal (burst_end burst) =
    (owed-of burst (get_or afters i d) answer (sym (only-owed burst afters (get_or afters i d) one held owed) ∙ found)).start in omega (arith, start)) soon

-- what happens while an answer is sent, after which the station in control has this course
abbrev pub answer_happens : Scenario → StationData → List After → ShownBurst → Course → Happening
answer_happens w holder afters answer later = record {
  blocks = blocks_taken w.lag w.loads answer (map (after_answer w.lag w.loads answer) afters);
  bursts = answer ∷ [];
  attempts = attempts_ended w holder (burst_end answer + w.lag) later;
  commands = 0;
}

module _ (w : Scenario) (t place : ℕ) (holder : StationData) (c0 : Course) (none : StaysFrom w t) (lag : w.lag ≡ 3) (accepted : IsAccepted w.plan)
    (u : ℕ) (burst : ShownBurst) (part : Part) (afters : List After) (h : Happening)
    (came : Came w t place holder c0 u burst.channel (burst_end burst) part afters h) where
  -- ---- until it is due

  module _ (answer : Answer) (found : answer_to burst afters ≡ Some answer) (late : u ≤ answer.start) (soon : answer.start ≤ burst_end burst + relay_wait)
      (idle : NothingStarts w.lag (course_of w holder (shown_at w u)) (shown_at w u) (answer.start - u)) (goes : GoesOnTo w (shown_at w u) answer.start) where
    due-at : u + (answer.start - u) ≡ answer.start
    due-at = omega (arith, late)

    lasts-due : All (LastsTo (u + (answer.start - u)) (burst_end burst)) afters
    lasts-due = subst (λ v. All (LastsTo v (burst_end burst)) afters) (sym due-at) (all-last-to burst afters answer came.moment.one found soon)

    goes-due : GoesOnTo w (shown_at w u) (u + (answer.start - u))
    goes-due = subst (GoesOnTo w (shown_at w u)) (sym due-at) goes

    pub came-due : Came w t place holder c0 answer.start burst.channel (burst_end burst) part afters h
    came-due =
        subst (λ v. Came w t place holder c0 v burst.channel (burst_end burst) part afters h) due-at
        (came-later w t place holder c0 none u (answer.start - u) burst.channel (burst_end burst) part afters h came idle lasts-due goes-due)

    pub course-due : course_of w holder (shown_at w answer.start) ≡ course_of w holder (shown_at w u)
    course-due =
        subst (λ v. course_of w holder (shown_at w v) ≡ course_of w holder (shown_at w u)) due-at
        (course-later w t place holder c0 none u (answer.start - u) burst.channel (burst_end burst) part afters h came idle lasts-due goes-due)

    pub shown-due : shown_at w answer.start ≡ quiet_pairs (answer.start - u) ++ shown_at w u
    shown-due =
        subst (λ v. shown_at w v ≡ quiet_pairs (answer.start - u) ++ shown_at w u) due-at
        (shown-later w t place holder c0 none u (answer.start - u) burst.channel (burst_end burst) part afters h came idle lasts-due goes-due)

  -- ---- while it is sent

  module _ (answer : ShownAnswer) (now : answer.sent.start ≡ u)
      (shows : shown_answer (hits_on w.plan.faults (suc (commands_in w (driven_at w t))) part) (answer_to burst afters) ≡ Some answer)
      (counted-one : h.commands ≡ 1) (words : IsStatusWithData answer.sent) (declines : answer.sent.acceptance ≡ false) (part-is : part ≢ Command)
      (one : AtMostOneOwes (map (after_answer w.lag w.loads answer.burst) afters)) (goes : GoesOnTo w (shown_at w u) (suc u)) where
    numbered : suc (commands_in w (driven_at w t)) ≡ commands_in w (driven_at w u)
    numbered = let grew = came.passage.counted in omega (arith, grew, counted-one)

    begins-now : AnswerBegins w u place holder part burst afters answer
    begins-now = record {
      moment = came.moment;
      part_is = part-is;
      shown = subst (λ n. shown_answer (hits_on w.plan.faults n part) (answer_to burst afters) ≡ Some answer) numbered shows;
      words = words;
      due = now;
      declines = declines;
      goes = goes;
      one = one;
    }

    module _ (later : Course) (beside : HoldsBesideShown w (shown_at w u) holder burst.channel answer.hits answer.sent.words
        (burst_read answer.burst) later) where
      pub answer-over : AnswerOver w u (burst_end answer.burst + suc w.lag) place holder burst afters answer.burst later
      unfolding begins-now
      answer-over =
          answer-passes-shown w u place holder part burst afters answer later lag accepted (stays-later w t u came.passage.later none) begins-now beside

      pub answered-came : Came w t place holder c0 (burst_end answer.burst + suc w.lag) burst.channel (burst_end answer.burst) Second
          (map (after_answer w.lag w.loads answer.burst) afters) (followed_by h (answer_happens w holder afters answer.burst later))
      answered-came = record {
        moment = answer-over.moment;
        passage = joined w t u (burst_end answer.burst + suc w.lag) h (answer_happens w holder afters answer.burst later) came.passage answer-over.passed;
        quiet = answer-over.quiet;
        items = items-answer holder c0 w.lag w.loads answer.burst afters came.items;
      }
