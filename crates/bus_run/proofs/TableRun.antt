-- The run of an accepted plan is over in the tick that the message table says and in none before, and all that it brings has room.
use Rattle.std.proofs.Common.{◌≡◌, inl, inr, ℕ, ◌≤◌, ◌<◌, true, false, List, [], sym, ◌∙◌, ap, arith}
use Rattle.std.proofs.lemmas.Bool.{cases_lt}
use Rattle.std.proofs.lemmas.List.{length-map}
use Rattle.std.specs.Prelude.{min, sum_by}
use Rattle.bus_base.specs.declared.samples.Pair.{Pair}
use Rattle.bus_line.specs.Channels.{valid, bursts}
use Rattle.bus_line.specs.declared.cutter.TheConstants.{LAG}
use Rattle.bus_formats.specs.Accepted.{IsAccepted}
use Rattle.bus_formats.specs.Plans.{PlanData}
use Rattle.bus_model.specs.Run as table
use Rattle.bus_model.specs.World.{world, run_is_over}
use Rattle.bus_model.specs.WorldLog.{heard_word, heard_burst}
use Rattle.bus_model.proofs.RunEnds.{run-ends}
use Rattle.bus_law_plans.specs.Amounts.{station_attempts}
use Rattle.bus_law_plans.proofs.Agreed.{agreed-all}
use Rattle.bus_law_plans.proofs.EachRun.{plan-few}
use Rattle.bus_law_run.specs.WorldIsRun.{plan_end, WorldIsRun, IsWithin}
use Rattle.bus_law_whole.proofs.EachWorld.{each-world}
use Rattle.bus_run.specs.Amounts.{most_attempts}
use Rattle.bus_run.specs.Tables.{HasRoomFor}
use Rattle.bus_run.proofs.Delivering.{delivering-few}

least : (most amount : ℕ) → amount ≤ most → min most amount ≡ amount
least most amount few = grind (arith, few)

module _ (plan : PlanData) (accepted : IsAccepted plan) where
  -- the world does what the run by the message table says
  pub of-plan : WorldIsRun plan
  of-plan = each-world plan accepted (run-ends LAG [] plan)

  -- room is made for as many attempts as the table's agendas have
  pub same-attempts : most_attempts plan ≡ table.most_attempts plan
  unfolding most_attempts
  same-attempts =
      least 0x8000_0000 (sum_by station_attempts plan.stations) (let few = (plan-few plan accepted).0 in omega (arith, few))
      ∙ sym (agreed-all plan.stations)

  -- the run has at most 2,703,360,088 ticks
  pub end-small : plan_end plan ≤ 2703360088
  end-small =
      let last = of-plan.ends in
      let few = (plan-few plan accepted).0 in
      let frames = (plan-few plan accepted).1 in
      let same = agreed-all plan.stations in
      omega (arith, last, few, frames, same)

  -- there is room for all that it brings
  pub goes-on : (t : ℕ) → t ≤ plan_end plan → HasRoomFor plan t
  goes-on t early =
      let past : List Pair = world LAG plan [] [] [] t in
      let within : IsWithin plan t = of-plan.within t early in
      let same : most_attempts plan ≡ table.most_attempts plan = same-attempts in
      let last = end-small in
      let attempted = within.attempts_few in
      let sent = within.words_few in
      let shown = within.bursts_few in
      let told = delivering-few plan past in
      record {
        small = omega (arith, early, last);
        attempts_left = omega (arith, same, attempted);
        words_left = rw (length-map (valid LAG past) heard_word) (omega (arith, same, sent));
        bursts_left = rw (length-map (bursts LAG past) heard_burst) (omega (arith, same, shown));
        deliveries_left = omega (arith, same, shown, told);
      }

  -- where it is over, the table's run ends
  pub over-there : (t : ℕ) → t ≤ plan_end plan → run_is_over LAG plan [] [] [] t ≡ true → t ≡ plan_end plan
  over-there t within over = elim (cases_lt t (plan_end plan)) [
    | inl early ↦ (let no : true ≡ false = sym over ∙ (of-plan.orderly t early).goes_on in cc)
    | inr late ↦ omega (arith, within, late)
  ]

  -- and where it isn't, the table's run ends later
  pub on-before : (t : ℕ) → t ≤ plan_end plan → run_is_over LAG plan [] [] [] t ≡ false → t < plan_end plan
  on-before t within on = elim (cases_lt t (plan_end plan)) [
    | inl early ↦ early
    | inr late ↦
        let there : t ≡ plan_end plan = omega (arith, within, late) in
        let no : false ≡ true = sym on ∙ ap (λ n. run_is_over LAG plan [] [] [] n) there ∙ of-plan.over in cc
  ]
