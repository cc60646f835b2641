-- The run stands after each of its attempts, and rests once none is left.
use Rattle.std.proofs.Common.{◌≡◌, inl, inr, ℕ, zero, suc, ◌<◌, ◌≤◌, true, [], Option, Some, None, refl, sym, ◌∙◌, subst, arith}
use Rattle.std.proofs.lemmas.List.Elements.{recursion_from_All}
use Rattle.std.proofs.lemmas.Option.{none-some}
use Rattle.bus_formats.specs.Accepted.{IsAccepted, HasStationRanges}
use Rattle.bus_model.specs.Run.{Run, Next, first_run, next_item, next_attempt, attempt, attempts_after, most_attempts, run_of, run_end}
use Rattle.bus_model.specs.Starts.{Opening, usual, taking}
use Rattle.bus_model.specs.WorldLog.{present_stations}
use Rattle.bus_law_plans.specs.Entries.{IsRunOf, KeepsSuperseding, IsFinished}
use Rattle.bus_law_plans.proofs.EachRun.{each-run, each-of-plan, each-ranged}
use Rattle.bus_law_plans.proofs.Places.{finished}
use Rattle.bus_law_plans.proofs.Superseded.{each-superseded}
use Rattle.bus_law_phases.specs.Scenarios.{Scenario, shown_at, course_of, is_over_at, StaysFrom, IsWhole}
use Rattle.bus_law_run.specs.RunShows.{RunShows, RunRests}
use Rattle.bus_law_run.specs.WholeRun.{IsAcceptedBus, IsAcceptedScenario, run_in}
use Rattle.bus_law_run.proofs.FirstRests.{first-rests, first-retry, first-origin, first-early}
use Rattle.bus_law_run.proofs.RunOver.{rests-over, is-over}
use Rattle.bus_law_whole.specs.Messages.{MessagesAreTold}
use Rattle.bus_law_whole.specs.RunStands.{IsBetween, RunStands, MayGoOn, IsRunByPresent}
use Rattle.bus_law_whole.proofs.Begins.{begins, may-go-on}
use Rattle.bus_law_whole.proofs.NextStands.{next-stands}
use Rattle.bus_law_whole.proofs.Present.{present-goes-on, attempt-by-present}
use Rattle.bus_law_phases.proofs.Staying.{stays-later}

-- before the first tick the beginning of a run stands
first-stands : (w : Scenario) → IsWhole w → IsAccepted w.plan → w.absent ≡ [] → RunStands w 0 (first_run w.plan)
first-stands w whole accepted present =
    let rests : RunRests w 0 (first_run w.plan) = first-rests w whole accepted present in record {
      place = rests.place;
      holder = rests.holder;
      holder_is = rests.holder_is;
      opening = rests.opening;
      retry = first-retry w whole rests.holder;
      origin = first-origin w whole rests.holder;
      early = first-early w whole rests.holder;
      pending = [];
      shows = rests.shows;
      moment = inl record {
        rested = rests.rested;
        runs_on = refl;
        pending_is = refl;
        since = record { quiet = rests.quiet; soon = λ none. rests.soon };
      };
    }

module _ (w : Scenario) (is : IsAcceptedBus w) (tells : MessagesAreTold w) where
  -- where the station in control has an item left, the world comes as far as the run with one attempt more
  pub goes-on : (t : ℕ) (run : Run) (next : Next) → StaysFrom w t → MayGoOn w run → RunStands w t run → next_item run ≡ Some next →
      (u : ℕ) × (t < u) × RunStands w u (attempt w.lag w.loads w.plan.faults run)
  goes-on t run next stays fit stands given =
      let began = begins w is tells t run next stays fit stands given in
      let then = next-stands w began.0 stands.place stands.holder run next stands.pending began.2 began.3 given in
      (then.0, omega (arith, began.1, then.1), then.2)

  -- the run after one attempt more, if the station in control has an item left
  stands-next : (t : ℕ) (run : Run) (o : Option Next) → next_item run ≡ o → StaysFrom w t → MayGoOn w run → RunStands w t run →
      (u : ℕ) × (t ≤ u) × RunStands w u (attempt w.lag w.loads w.plan.faults run)
  stands-next t run None given stays fit stands =
      (t, omega arith, subst (λ o. RunStands w t (next_attempt w.lag w.loads w.plan.faults run o)) (sym given) stands)
  stands-next t run (Some next) given stays fit stands =
      let then = goes-on t run next stays fit stands given in (then.0, omega (arith, then.1), then.2)

  -- the run after any number of attempts more, by the stations that are present
  pub stands-after : (t : ℕ) (run : Run) (n : ℕ) → StaysFrom w t → IsRunByPresent w run → RunStands w t run →
      (u : ℕ) × (t ≤ u) × RunStands w u (attempts_after w.lag w.loads w.plan.faults n run)
  unfolding attempts_after
  stands-after t run zero stays of stands = (t, omega arith, stands)
  stands-after t run (suc n) stays of stands =
      let before = stands-after t run n stays of stands in
      let now : Run = attempts_after w.lag w.loads w.plan.faults n run in
      let by : IsRunByPresent w now =
      each-run (IsRunByPresent w) w.lag w.loads w.plan.faults run of (λ r so. attempt-by-present w r is so) n in
      let then = stands-next before.0 now (next_item now) refl (stays-later w t before.0 before.1 stays) (present-goes-on w is.accepted now by) before.2 in
      (then.0, omega (arith, before.1, then.1), then.2)

-- ---- where no item is left

module _ (w : Scenario) where
  -- control isn't being taken
  not-taking : (opening : Opening) (need tick at : ℕ) → opening ≡ usual need tick → opening ≡ taking at → ⊥
  not-taking opening need tick at usually taken = cc

  module _ (t : ℕ) (run : Run) (stands : RunStands w t run) (over : IsFinished run) (none : next_item run ≡ None) where
    rests-between : IsBetween w t stands.place stands.holder run stands.pending → RunRests w t run
    rests-between moment = record {
      place = stands.place;
      holder = stands.holder;
      holder_is = stands.holder_is;
      rested = moment.rested;
      opening = stands.opening;
      quiet = moment.since.quiet;
      soon = moment.since.soon none;
      shows = subst (RunShows w t run) moment.pending_is stands.shows;
    }

    pub stands-rests : RunRests w t run
    stands-rests = elim (stands.moment) [
      | inl moment ↦ rests-between moment
      | inr other ↦ elim other [
        | inl doubt ↦ absurd (not-taking (course_of w stands.holder (shown_at w t)).opening over.need over.tick _ (stands.opening ∙ over.opening_is) doubt.rested.takes)
        | inr beside ↦ absurd (none-some beside.old (sym over.runs_on ∙ beside.runs_on))
      ]
    ]

  -- by the stations that are present, and then it is over
  pub rests-at-end : (t : ℕ) (run : Run) → IsAcceptedBus w → StaysFrom w t → IsRunByPresent w run → RunStands w t run → next_item run ≡ None →
      RunRests w (run_end run) run × (is_over_at w (run_end run) ≡ true)
  rests-at-end t run bus stays by stands none =
      let rests : RunRests w t run = stands-rests t run stands (finished w.plan run by.of by.superseding none) none in
      let over : RunRests w (run_end run) run = rests-over w t run bus.accepted stays rests none in (
        over,
        is-over w run bus.accepted (stays-later w t (run_end run) rests.soon stays) w.plan
            (present_stations w.lag w.plan w.loads w.outside w.absent) by.of over none,
      )

module _ (w : Scenario) (is : IsAcceptedScenario w) (tells : MessagesAreTold w) where
  -- the run after each of its attempts, where every station is present
  pub stands-each : w.absent ≡ [] → (n : ℕ) → (t : ℕ) × RunStands w t (attempts_after w.lag w.loads w.plan.faults n (first_run w.plan))
  unfolding attempts_after
  stands-each present zero = (0, first-stands w is.whole is.bus.accepted present)
  stands-each present (suc n) =
      let before = stands-each present n in
      let run : Run = attempts_after w.lag w.loads w.plan.faults n (first_run w.plan) in
      let then = stands-next w is.bus tells before.0 run (next_item run) refl (stays-later w 0 before.0 (omega arith) is.whole.stays)
      (may-go-on w w.plan.stations run is.bus.accepted.apart (recursion_from_All HasStationRanges w.plan.stations is.bus.accepted.ranges)
      (each-of-plan w.lag w.plan w.loads n is.bus.accepted) (each-ranged w.lag w.plan w.loads n is.bus.accepted is.bus.blocks) (each-superseded w.lag w.plan w.loads n is.bus.accepted)) before.1 in
      (then.0, then.2)

  -- ---- the run of the plan

  module _ (present : w.absent ≡ []) (none : next_item (run_in w) ≡ None) where
    run-of : IsRunOf w.plan (run_in w)
    unfolding run_of
    run-of = each-of-plan w.lag w.plan w.loads (most_attempts w.plan) is.bus.accepted

    run-superseding : KeepsSuperseding (run_in w)
    unfolding run_of
    run-superseding = each-superseded w.lag w.plan w.loads (most_attempts w.plan) is.bus.accepted

    run-stands : (t : ℕ) × RunStands w t (run_in w)
    unfolding run_of
    run-stands = stands-each present (most_attempts w.plan)

    run-rests : (t : ℕ) × RunRests w t (run_in w)
    run-rests = (run-stands.0, stands-rests w run-stands.0 (run_in w) run-stands.1 (finished w.plan (run_in w) run-of run-superseding none) none)

    pub at-end : RunRests w (run_end (run_in w)) (run_in w)
    at-end = rests-over w run-rests.0 (run_in w) is.bus.accepted (stays-later w 0 run-rests.0 (omega arith) is.whole.stays) run-rests.1 none

    pub over-at-end : is_over_at w (run_end (run_in w)) ≡ true
    over-at-end = is-over w (run_in w) is.bus.accepted (stays-later w 0 (run_end (run_in w)) (omega arith) is.whole.stays) w.plan w.plan.stations run-of at-end none
