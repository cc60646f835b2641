-- What was made of the messages that were drawn is the plan that is drawn.
use Rattle.std.proofs.Common.{◌≡◌, ℕ, ◌≤◌, List, subst, sym, ◌∙◌, Result, Ok, Err}
use Rattle.std.specs.Prelude.{IfOk}
use Rattle.bus_formats.specs.Accepted.{IsAccepted}
use Rattle.bus_formats.specs.Plans.{ItemData, PlanData}
use Rattle.bus_bench.specs.Generated.{plan_with, bench_plan, items_from}
use Rattle.bus_bench.proofs.Accepted.{plan-accepted}

pub plan-drawn : {E : Type 0} (result : Result PlanData E) (items : List ItemData) (number count : ℕ) → items ≡ items_from 1 number count →
    IfOk result (λ plan. plan ≡ plan_with items) → IfOk result (λ plan. plan ≡ bench_plan number count)
unfolding bench_plan
plan-drawn result items number count is made = subst (λ xs. IfOk result (λ plan. plan ≡ plan_with xs)) is made

pub drawn-accepted : {E : Type 0} (result : Result PlanData E) (items : List ItemData) (number count : ℕ) → items ≡ items_from 1 number count →
    IfOk result (λ plan. plan ≡ plan_with items) → count ≤ 4096 → IfOk result (λ plan. IsAccepted plan)
drawn-accepted result items number count is made few = weaker result (plan-drawn result items number count is made) where
  weaker : {E : Type 0} (result : Result PlanData E) → IfOk result (λ plan. plan ≡ bench_plan number count) → IfOk result (λ plan. IsAccepted plan)
  weaker (Ok plan) same = subst IsAccepted (sym same) (plan-accepted number count few)
  weaker (Err e) same = same
