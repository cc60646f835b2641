-- An answer that is awaited and doesn't come: the message is closed, and promises run out.
use Rattle.std.proofs.Common.{◌≡◌, ◌⊎◌, inl, inr, ℕ, suc, ◌+◌, ◌-◌, ◌≤◌, false, List, [], ◌∷◌, ◌++◌, length, map, Some, None, refl, sym, ap, ◌∙◌, subst, arith, All}
use Rattle.std.proofs.lemmas.List.Elements.{All-head, All-tail, All-nil, All-cons}
use Rattle.std.proofs.lemmas.Option.{none-some, same_Some}
use Rattle.bus_base.specs.Samples.{quiet_pair, quiet_pairs}
use Rattle.bus_base.specs.declared.samples.Channel.{Channel}
use Rattle.bus_base.specs.declared.samples.Pair.{Pair}
use Rattle.bus_base.specs.declared.samples.Part.{Part}
use Rattle.bus_base.specs.declared.samples.Part.TheVariants.{Second}
use Rattle.bus_line.specs.Past.{quiet_ticks}
use Rattle.bus_line.specs.Channels.{on_channel}
use Rattle.bus_formats.specs.Plans.{StationData}
use Rattle.bus_formats.specs.Times.{no_response, relay_wait}
use Rattle.bus_formats.specs.declared.form.Outcome.TheVariants.{NoResponse}
use Rattle.bus_model.specs.Attempts.{Begun, Ended, without_words}
use Rattle.bus_model.specs.Course.{Course, quiet_from, close}
use Rattle.bus_model.specs.Message.{After, after_silence}
use Rattle.bus_model.specs.Orders.{Duty, free, owes, promises}
use Rattle.bus_model.specs.Standing.{is_owed}
use Rattle.bus_model.specs.Starts.{usual, start_of, needed_quiet, opening_after}
use Rattle.bus_model.specs.Strikes.{ShownBurst, burst_end}
use Rattle.bus_law_control.proofs.OwnChannel.{first-own, second-own}
use Rattle.bus_law_stations.specs.Messages.{with_running}
use Rattle.bus_law_stations.specs.Silence.{AwaitsFirst, AwaitsSecond, NothingStarts}
use Rattle.bus_law_table.proofs.Quiet.{pairs-quiet, pairs-many}
use Rattle.bus_law_phases.specs.Closings.{AwaitsAnswer, unanswered, attempt_ends}
use Rattle.bus_law_phases.specs.Moments.{Underway, DutyLasts, LastsTo}
use Rattle.bus_law_phases.specs.Passages.{Happening, Passage, followed_by, nothing_happens}
use Rattle.bus_law_phases.specs.Scenarios.{Scenario, trace_at, shown_at, course_of, StaysFrom}
use Rattle.bus_law_phases.specs.Silences.{GoesOnTo, SomeoneIsBusy}
use Rattle.bus_law_phases.proofs.Passing.{joined}
use Rattle.bus_law_phases.proofs.SilencedEnd.{without-response}
use Rattle.bus_law_phases.proofs.SilencedItems.{items-silence}
use Rattle.bus_law_phases.proofs.SilencedPromises.{promises-over}
use Rattle.bus_law_told.proofs.Coming.{Came, came-later, course-later, shown-later, nothing-after}
use Rattle.bus_law_told.proofs.Ending.{starts-late}
use Rattle.bus_law_phases.proofs.Staying.{long-later, stays-later}

-- ---- waiting goes on in silence

-- the first answer, or a relay's second one
abbrev pub AwaitsOne : Scenario → List Pair → Begun → ℕ → Type 0
AwaitsOne w past begun e =
    AwaitsFirst w.lag begun (on_channel begun.state.channel past) e ⊎ AwaitsSecond w.lag begun (on_channel begun.state.channel past) e

-- ticks of quiet pairs are quiet on a channel
pub quiet-many : (d : Channel) (n : ℕ) → on_channel d (quiet_pairs n) ≡ quiet_ticks (length (quiet_pairs n))
quiet-many d n = pairs-quiet d n ∙ ap quiet_ticks (sym (pairs-many n))

-- it is awaited on, and the message would end as before
record AwaitsOn (w : Scenario) (past : List Pair) (begun : Begun) (e : ℕ) (before : Ended) : Type 0 where
  pub waits : AwaitsOne w past begun e
  pub same : unanswered w.lag begun (on_channel begun.state.channel past) e waits ≡ before

awaits-on : (w : Scenario) (past : List Pair) (begun : Begun) (e n : ℕ) (waits : AwaitsOne w past begun e) →
    AwaitsOn w (quiet_pairs n ++ past) begun e (unanswered w.lag begun (on_channel begun.state.channel past) e waits)
awaits-on w past begun e n (inl first) = record {
  waits = inl (first-own w.lag begun past (quiet_pairs n) e (quiet-many begun.state.channel n) first);
  same = refl;
}
awaits-on w past begun e n (inr second) =
    let later = second-own w.lag begun past (quiet_pairs n) e (quiet-many begun.state.channel n) second in record {
      waits = inr later.0;
      same = ap (λ st. without_words (NoResponse Second) (Some st) None) later.1;
    }

-- ---- nobody owes an answer

duty-lasts : (u e : ℕ) (station : StationData) (duty : Duty) → is_owed duty ≡ false → u ≤ e + relay_wait → DutyLasts u e station duty
duty-lasts u e station free none soon = tt
duty-lasts u e station (owes words acceptance) none soon = absurd (cc none)
duty-lasts u e station (promises command transmitter) none soon = soon

pub all-last : (u e : ℕ) (afters : List After) → All (λ after. is_owed after.duty ≡ false) afters → u ≤ e + relay_wait → All (LastsTo u e) afters
all-last u e [] none soon = All-nil (LastsTo u e)
all-last u e (a ∷ as_) none soon =
    All-cons (LastsTo u e) a as_ (duty-lasts u e a.station.plan a.duty (All-head (λ after. is_owed after.duty ≡ false) a as_ none) soon)
    (all-last u e as_ (All-tail (λ after. is_owed after.duty ≡ false) a as_ none) soon)

module _ (w : Scenario) (t place : ℕ) (holder : StationData) (c0 : Course) (none : StaysFrom w t) where
  -- a controller that waits starts nothing before its wait is over
  pub waits-on : (u n e : ℕ) (begun : Begun) → t ≤ u → (course_of w holder (shown_at w u)).runs ≡ Some begun → AwaitsOne w (shown_at w u) begun e →
      u + n ≤ e + no_response → NothingStarts w.lag (course_of w holder (shown_at w u)) (shown_at w u) n
  waits-on u n e begun up runs waits soon =
      let many : length (shown_at w u) ≡ u = long-later w t u up none in record {
        waits = λ b is. (
          e,
          subst (λ (x : Begun). AwaitsOne w (shown_at w u) x e) (same_Some begun b (sym runs ∙ is)) waits,
          omega (arith, many, soon),
        );
        starts = λ idle holds next later left. absurd (none-some begun (sym idle ∙ runs));
      }

  -- one that closed its message waits for the quiet that it needs
  pub closed-waits : (u n e tick need : ℕ) → t ≤ u → (course_of w holder (shown_at w u)).runs ≡ None →
      (course_of w holder (shown_at w u)).opening ≡ usual need tick → quiet_from (shown_at w u) ≡ e → u + n ≤ e + need →
      NothingStarts w.lag (course_of w holder (shown_at w u)) (shown_at w u) n
  closed-waits u n e tick need up idle opens quiet soon =
      let c = course_of w holder (shown_at w u) in
      let many : length (shown_at w u) ≡ u = long-later w t u up none in record {
        waits = λ b is. absurd (none-some b (sym idle ∙ is));
        starts = λ unused holds next later left.
            let late : (u + n) + 0 ≤ start_of (usual need tick) c.retry c.origin next e = starts-late c.retry c.origin next need tick e (u + n) soon in
            let now : (u + n) + 0 ≤ start_of c.opening c.retry c.origin next (quiet_from (shown_at w u)) =
            subst (λ o. (u + n) + 0 ≤ start_of o c.retry c.origin next (quiet_from (shown_at w u))) (sym opens)
            (subst (λ z. (u + n) + 0 ≤ start_of (usual need tick) c.retry c.origin next z) (sym quiet) late) in
            omega (arith, many, now);
      }

  -- a station with a message that runs is busy
  pub waiter-busy : (u : ℕ) (c : Channel) (e : ℕ) (part : Part) (afters : List After) (begun : Begun) → Underway w (trace_at w u) place holder c e part afters →
      (course_of w holder (shown_at w u)).runs ≡ Some begun → SomeoneIsBusy w (shown_at w u)
  waiter-busy u c e part afters begun moment runs =
      let holds = moment.holds in record { place = place; station = holder; at = moment.at; busy = rw (holds, runs) refl }

  -- ---- the answer that is awaited after a burst doesn't come, and nobody owes one

  module _ (u : ℕ) (burst : ShownBurst) (part : Part) (afters : List After) (h : Happening) (begun : Begun)
      (came : Came w t place holder c0 u burst.channel (burst_end burst) part afters h)
      (runs : course_of w holder (shown_at w u) ≡ with_running c0 begun) (waits : AwaitsOne w (shown_at w u) begun (burst_end burst))
      (unowed : All (λ after. is_owed after.duty ≡ false) afters) (u_soon : u ≤ burst_end burst + no_response) (ended : Ended)
      (ended-is : unanswered w.lag begun (on_channel begun.state.channel (shown_at w u)) (burst_end burst) waits ≡ ended)
      (opens : opening_after ended.outcome begun.state.channel (burst_end burst + no_response)
      ≡ usual (needed_quiet ended.outcome) (suc (burst_end burst + no_response))) (needs : 40 ≤ needed_quiet ended.outcome) where
    abbrev e : ℕ
    e = burst_end burst

    abbrev n : ℕ
    n = (e + no_response) - u

    still-runs : (course_of w holder (shown_at w u)).runs ≡ Some begun
    still-runs = ap (λ (d : Course). d.runs) runs

    idle : NothingStarts w.lag (course_of w holder (shown_at w u)) (shown_at w u) n
    idle = waits-on u n e begun came.passage.later still-runs waits (omega (arith, u_soon))

    lasts : All (LastsTo (u + n) e) afters
    lasts = all-last (u + n) e afters unowed (omega (arith, u_soon))

    goes : GoesOnTo w (shown_at w u) (u + n)
    goes = inl (waiter-busy u burst.channel e part afters begun came.moment still-runs)

    waited-at : u + n ≡ e + no_response
    waited-at = omega (arith, u_soon)

    waited : Came w t place holder c0 (e + no_response) burst.channel e part afters h
    waited = subst (λ v. Came w t place holder c0 v burst.channel e part afters h) waited-at
        (came-later w t place holder c0 none u n burst.channel e part afters h came idle lasts goes)

    waited-course : course_of w holder (shown_at w (e + no_response)) ≡ with_running c0 begun
    waited-course = subst (λ v. course_of w holder (shown_at w v) ≡ with_running c0 begun) waited-at
        (course-later w t place holder c0 none u n burst.channel e part afters h came idle lasts goes ∙ runs)

    awaited-at : AwaitsOn w (shown_at w (e + no_response)) begun e ended
    awaited-at =
        subst (λ v. AwaitsOn w (shown_at w v) begun e ended) waited-at
        (subst (λ p. AwaitsOn w p begun e ended)
        (sym (shown-later w t place holder c0 none u n burst.channel e part afters h came idle lasts goes))
        (subst (λ d. AwaitsOn w (quiet_pairs n ++ shown_at w u) begun e d) ended-is (awaits-on w (shown_at w u) begun e n waits)))

    -- ---- the tick in which the wait is over

    abbrev last : ℕ
    last = e + no_response

    awaits-now : AwaitsAnswer w (shown_at w last) holder begun e
    awaits-now = record { runs = ap (λ (d : Course). d.runs) waited-course; waits = awaited-at.waits }

    abbrev h_closed : Happening
    h_closed = followed_by h (attempt_ends holder begun ended last)

    abbrev EndsAs : Ended → Type 0
    EndsAs d = (shown_at w (suc last) ≡ quiet_pair ∷ shown_at w last) × Underway w (trace_at w (suc last)) place holder burst.channel e part afters
        × (course_of w holder (shown_at w (suc last)) ≡ close (course_of w holder (shown_at w last)) begun d last)
        × (quiet_from (shown_at w (suc last)) ≡ quiet_from (shown_at w last)) × Passage w last (suc last) (attempt_ends holder begun d last)

    ends-now : EndsAs ended
    unfolding awaits-now
    ends-now =
        subst EndsAs awaited-at.same
        (without-response w last place holder burst.channel e part afters begun waited.moment awaits-now refl
        (all-last (suc last) e afters unowed (omega arith)) (stays-later w t last waited.passage.later none))

    closed-came : Came w t place holder c0 (suc last) burst.channel e part afters h_closed
    closed-came = record {
      moment = ends-now.1;
      passage = joined w t last (suc last) h (attempt_ends holder begun ended last) waited.passage ends-now.4;
      quiet = ends-now.3 ∙ waited.quiet;
      items = came.items;
    }

    closed-course : course_of w holder (shown_at w (suc last)) ≡ close c0 begun ended last
    closed-course = ends-now.2 ∙ ap (λ d. close d begun ended last) waited-course

    -- ---- promises run out

    closed-idle : (m : ℕ) → suc last + m ≤ e + 40 → NothingStarts w.lag (course_of w holder (shown_at w (suc last))) (shown_at w (suc last)) m
    closed-idle m soon =
        closed-waits (suc last) m e (suc last) (needed_quiet ended.outcome) closed-came.passage.later (ap (λ (d : Course). d.runs) closed-course)
        (ap (λ (d : Course). d.opening) closed-course ∙ opens) closed-came.quiet (omega (arith, soon, needs))

    closed-goes : GoesOnTo w (shown_at w (suc last)) (suc last + 5)
    closed-goes = let quiet : quiet_from (shown_at w (suc last)) ≡ e = closed-came.quiet in inr (omega (arith, quiet))

    closed-lasts : All (LastsTo (suc last + 5) e) afters
    closed-lasts = all-last (suc last + 5) e afters unowed (omega arith)

    abbrev end : ℕ
    end = e + relay_wait

    end-at : suc last + 5 ≡ end
    end-at = omega arith

    quiet-came : Came w t place holder c0 end burst.channel e part afters h_closed
    quiet-came =
        subst (λ v. Came w t place holder c0 v burst.channel e part afters h_closed) end-at
        (came-later w t place holder c0 none (suc last) 5 burst.channel e part afters h_closed closed-came (closed-idle 5 (omega arith)) closed-lasts closed-goes)

    quiet-course : course_of w holder (shown_at w end) ≡ close c0 begun ended last
    quiet-course =
        subst (λ v. course_of w holder (shown_at w v) ≡ close c0 begun ended last) end-at
        (course-later w t place holder c0 none (suc last) 5 burst.channel e part afters h_closed closed-came (closed-idle 5 (omega arith)) closed-lasts
        closed-goes ∙ closed-course)

    quiet-idle : NothingStarts w.lag (course_of w holder (shown_at w end)) (shown_at w end) 1
    quiet-idle =
        closed-waits end 1 e (suc last) (needed_quiet ended.outcome) quiet-came.passage.later (ap (λ (d : Course). d.runs) quiet-course)
        (ap (λ (d : Course). d.opening) quiet-course ∙ opens) quiet-came.quiet (omega (arith, needs))

    quiet-goes : GoesOnTo w (shown_at w end) (suc end)
    quiet-goes = let quiet : quiet_from (shown_at w end) ≡ e = quiet-came.quiet in inr (omega (arith, quiet))

    abbrev settled : List After
    settled = map (after_silence w.lag w.loads burst) afters

    run-out : (shown_at w (suc end) ≡ quiet_pair ∷ shown_at w end) × Underway w (trace_at w (suc end)) place holder burst.channel e part settled
        × All (λ after. after.duty ≡ free) settled × (course_of w holder (shown_at w (suc end)) ≡ course_of w holder (shown_at w end))
        × (quiet_from (shown_at w (suc end)) ≡ quiet_from (shown_at w end)) × Passage w end (suc end) nothing_happens
    run-out =
        promises-over w end place holder burst e part afters quiet-came.moment refl unowed quiet-idle (stays-later w t end quiet-came.passage.later none)
        quiet-goes

    pub unanswered-came : Came w t place holder c0 (suc end) burst.channel e part settled h_closed
    unanswered-came = record {
      moment = run-out.1;
      passage = subst (Passage w t (suc end)) (nothing-after h_closed)
          (joined w t end (suc end) h_closed nothing_happens quiet-came.passage run-out.5);
      quiet = run-out.4 ∙ quiet-came.quiet;
      items = items-silence holder c0 w.lag w.loads burst afters came.items;
    }

    pub unanswered-free : All (λ after. after.duty ≡ free) settled
    unanswered-free = run-out.2

    pub unanswered-course : course_of w holder (shown_at w (suc end)) ≡ close c0 begun ended last
    unanswered-course = run-out.3 ∙ quiet-course
