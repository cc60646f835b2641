-- A plan that is drawn names no subsystem.
use Rattle.std.proofs.Common.{◌≡◌, ℕ, zero, suc, List, [], ◌∷◌, ◌++◌, map, refl, ap, sym, ◌∙◌}
use Rattle.bus_formats.specs.Plans.{FrameData, StationData, PlanData, without_subsystem, without_subsystems}
use Rattle.bus_run.specs.Kept.{places}
use Rattle.bus_run.proofs.AcceptedLaws.{places-without}
use Rattle.bus_bench.specs.Generated.{terminals_from, station_at, plan_with, bench_plan, items_from}

unchanged : (first count last : ℕ) (frames : List FrameData) →
    map without_subsystem (terminals_from first count ++ station_at last frames ∷ []) ≡ terminals_from first count ++ station_at last frames ∷ []
unfolding terminals_from
unchanged first zero last frames = refl
unchanged first (suc count) last frames = ap (λ stations. station_at first [] ∷ stations) (unchanged (suc first) count last frames)

abbrev plan_of : List StationData → PlanData
plan_of stations = record { start = 31; stations = stations; faults = [] }

same-plan : (number count : ℕ) → without_subsystems (bench_plan number count) ≡ bench_plan number count
unfolding bench_plan
same-plan number count =
    ap plan_of (unchanged 0 31 31 (record { ticks = 0; items = items_from 1 number count } ∷ []))

pub no-places : (plan : PlanData) (number count : ℕ) → plan ≡ bench_plan number count → places plan ≡ []
no-places plan number count is = ap places (is ∙ sym (same-plan number count)) ∙ places-without (bench_plan number count)
