-- The run of an accepted plan over loads that are blocks is over in the tick that the message table says, and all that it brings has room.
use Rattle.std.proofs.Common.{◌≡◌, inl, inr, ℕ, ◌≤◌, ◌<◌, true, false, List, [], ◌++◌, length, refl, sym, ◌∙◌, ap, arith, append-nil}
use Rattle.std.specs.Prelude.{reverse}
use Rattle.std.proofs.lemmas.Bool.{cases_lt}
use Rattle.std.proofs.lemmas.List.{length-reverse}
use Rattle.bus_line.specs.declared.cutter.TheConstants.{LAG}
use Rattle.bus_formats.specs.Accepted.{IsAccepted}
use Rattle.bus_formats.specs.Plans.{PlanData}
use Rattle.bus_model.specs.Memory.{TimedLoad}
use Rattle.bus_model.specs.Run as table
use Rattle.bus_model.specs.Run.{Run, run_of}
use Rattle.bus_model.specs.World.{world, trace, clashes, run_is_over}
use Rattle.bus_model.specs.WorldLog.{attempts}
use Rattle.bus_model.proofs.RunEnds.{run-ends}
use Rattle.bus_law_phases.specs.Scenarios.{Scenario, whole_scenario, shown_at, attempts_in}
use Rattle.bus_law_phases.specs.Passages.{IsOrderly}
use Rattle.bus_law_phases.proofs.Staying.{is-whole}
use Rattle.bus_law_plans.specs.Bounds.{IsWithinBounds}
use Rattle.bus_law_plans.specs.Memories.{AreBlocks}
use Rattle.bus_law_plans.proofs.Agreed.{agreed-all}
use Rattle.bus_law_plans.proofs.EachRun.{plan-few, run-within}
use Rattle.bus_law_run.specs.RunShows.{RunRests}
use Rattle.bus_law_run.specs.WholeRun.{IsAcceptedScenario}
use Rattle.bus_law_run.proofs.LogFound.{no-clashes}
use Rattle.bus_law_run.proofs.Fronts.{attempts-front, front-few}
use Rattle.bus_law_run.proofs.Shows.{whole-attempts, whole-orderly}
use Rattle.bus_law_whole.proofs.EachStands.{at-end, over-at-end}
use Rattle.bus_law_whole.proofs.MessagesTold.{messages-told}
use Rattle.bus_run.proofs.TableRun.{same-attempts}
use Rattle.bus_bridge.specs.Runs.{HasRoom, table_end}

module _ (plan : PlanData) (loads : List TimedLoad) (accepted : IsAccepted plan) (blocks : AreBlocks loads) where
  abbrev scenario : Scenario
  scenario = whole_scenario LAG plan loads [] []

  is-accepted : IsAcceptedScenario scenario
  is-accepted = record {
    bus = record { lag = refl; accepted = accepted; blocks = blocks };
    whole = is-whole LAG plan loads [] [] (λ place station there tick low. refl);
  }

  rests : RunRests scenario (table_end plan loads) (run_of LAG loads plan)
  rests = at-end scenario is-accepted (messages-told scenario is-accepted.bus) refl (run-ends LAG loads plan)

  -- each tick before its end is in order
  orderly : (i : ℕ) → i < table_end plan loads → IsOrderly scenario i
  orderly i before = whole-orderly scenario is-accepted.whole (table_end plan loads) (run_of LAG loads plan) [] rests.shows i before

  -- it is over there
  over : run_is_over LAG plan loads [] [] (table_end plan loads) ≡ true
  over = over-at-end scenario is-accepted (messages-told scenario is-accepted.bus) refl (run-ends LAG loads plan)

  bounds : IsWithinBounds plan (table.most_attempts plan) (run_of LAG loads plan)
  bounds = run-within LAG plan loads (omega arith) accepted

  -- it has at most 2,703,360,088 ticks
  pub end-small : table_end plan loads ≤ 2703360088
  end-small =
      let last = bounds.ticks in
      let few = (plan-few plan accepted).0 in
      let frames = (plan-few plan accepted).1 in
      let same = agreed-all plan.stations in
      omega (arith, last, few, frames, same)

  attempts-few : length (attempts_in scenario (shown_at scenario (table_end plan loads))) ≤ table.most_attempts plan
  attempts-few =
      let long : length (attempts_in scenario (shown_at scenario (table_end plan loads))) ≡ length (run_of LAG loads plan).attempts =
      ap length (sym (append-nil (attempts_in scenario (shown_at scenario (table_end plan loads)))) ∙ whole-attempts scenario is-accepted.whole (table_end plan loads) (run_of LAG loads plan) [] rests.shows)
      ∙ length-reverse (run_of LAG loads plan).attempts in
      let few = bounds.attempts in
      omega (arith, long, few)

  -- up to it one tick more has room
  pub has-room : (t : ℕ) → t ≤ table_end plan loads → HasRoom plan loads t
  has-room t early =
      let front = front-few (attempts_in scenario (shown_at scenario t)) (attempts_in scenario (shown_at scenario (table_end plan loads)))
      (attempts-front scenario 0 is-accepted.whole.stays t (table_end plan loads) (omega arith) early) in
      let few = attempts-few in
      let same = same-attempts plan accepted in
      let last = end-small in
      record { attempts_few = omega (arith, front, few, same); small = omega (arith, early, last) }

  -- where it isn't over, it ends later
  pub goes-on : (t : ℕ) → t ≤ table_end plan loads → run_is_over LAG plan loads [] [] t ≡ false → t < table_end plan loads
  goes-on t early on = elim (cases_lt t (table_end plan loads)) [
    | inl before ↦ before
    | inr late ↦
        let there : t ≡ table_end plan loads = omega (arith, early, late) in
        let no : false ≡ true = sym on ∙ ap (λ (n : ℕ). run_is_over LAG plan loads [] [] n) there ∙ over in cc
  ]

  -- where it is over, the table's run ends
  pub ends-there : (t : ℕ) → t ≤ table_end plan loads → run_is_over LAG plan loads [] [] t ≡ true → t ≡ table_end plan loads
  ends-there t early is = elim (cases_lt t (table_end plan loads)) [
    | inl before ↦ (let no : true ≡ false = sym is ∙ (orderly t before).goes_on in cc)
    | inr late ↦ omega (arith, early, late)
  ]

  -- the attempts are the table's there
  pub attempts-there : attempts LAG plan loads [] [] (world LAG plan loads [] [] (table_end plan loads)) ≡ reverse (run_of LAG loads plan).attempts
  attempts-there = sym (append-nil (attempts_in scenario (shown_at scenario (table_end plan loads)))) ∙ whole-attempts scenario is-accepted.whole (table_end plan loads) (run_of LAG loads plan) [] rests.shows

  -- and no two stations drove one channel
  pub none-clash : clashes plan.faults (trace LAG plan loads [] [] (table_end plan loads)).driven ≡ 0
  none-clash = no-clashes scenario (table_end plan loads) is-accepted.whole (λ i before c. (orderly i before).alone c)
