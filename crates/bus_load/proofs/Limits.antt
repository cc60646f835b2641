-- The schedules of an accepted plan are within its limits.
use Rattle.std.proofs.Common.{ℕ, zero, suc, ◌*◌, ◌≤◌, List, [], ◌∷◌, length, arith}
use Rattle.std.proofs.lemmas.List.Elements.{recursion_from_All, All-from_recursion}
use Rattle.std.proofs.lemmas.List.Sums.{sum_by-cons}
use Rattle.std.specs.Prelude.{All, sum_by}
use Rattle.std.specs.List.{AllByRecursion as Each}
use Rattle.bus_formats.specs.Accepted.{HasStationRanges, items_in, ticks_in, IsAccepted}
use Rattle.bus_formats.specs.Plans.{FrameData, StationData, PlanData}
use Rattle.bus_load.specs.Load.{IsWithinLimits}
use Rattle.bus_load.proofs.Begins.{once-more}
use Rattle.bus_law_plans.proofs.Lists.{each-weaker, each-both}

-- each part is at most the sum
part-of-sum : {X : Type 0} (value : X → ℕ) (xs : List X) → Each (λ x. value x ≤ sum_by value xs) xs
part-of-sum value [] = tt
part-of-sum value (x ∷ xs) = (
  omega (arith, sum_by-cons value x xs),
  each-weaker (λ y. value y ≤ sum_by value xs) (λ y. value y ≤ sum_by value (x ∷ xs)) (λ y low. omega (arith, low, sum_by-cons value x xs)) xs (part-of-sum value xs),
)

once : (n ticks : ℕ) → 1 ≤ n → ticks ≤ n * ticks
once zero ticks some = absurd (omega (arith, some))
once (suc n) ticks some = omega (arith, once-more n ticks)

few-items : (s : StationData) (most : ℕ) → items_in s ≤ most → Each (λ (f : FrameData). length f.items ≤ most) s.frames
few-items s most few =
    each-weaker (λ (f : FrameData). length f.items ≤ items_in s) (λ (f : FrameData). length f.items ≤ most) (λ f low. omega (arith, low, few)) s.frames
    (part-of-sum (λ (f : FrameData). length f.items) s.frames)

pub limits_of : (plan : PlanData) → IsAccepted plan → All IsWithinLimits plan.stations
limits_of plan accepted =
    let stations : List StationData = plan.stations in
    let items = part-of-sum items_in stations in
    let ticks = part-of-sum (λ (s : StationData). s.repeat * ticks_in s) stations in
    let frames = recursion_from_All (λ (s : StationData). length s.frames ≤ 1024) stations accepted.limits.frames in
    let ranges = recursion_from_All HasStationRanges stations accepted.ranges in
    let small : Each (λ (s : StationData). (items_in s ≤ 4096) × (s.repeat * ticks_in s ≤ 2048000000)) stations =
    each-both (λ (s : StationData). items_in s ≤ sum_by items_in stations)
    (λ (s : StationData). s.repeat * ticks_in s ≤ sum_by (λ (t : StationData). t.repeat * ticks_in t) stations)
    (λ (s : StationData). (items_in s ≤ 4096) × (s.repeat * ticks_in s ≤ 2048000000))
    (λ s a b. (omega (arith, a, accepted.limits.items), omega (arith, b, accepted.limits.repeated_ticks))) stations items ticks in
    let both = each-both (λ (s : StationData). length s.frames ≤ 1024) HasStationRanges (λ (s : StationData). (length s.frames ≤ 1024) × HasStationRanges s)
    (λ s a b. (a, b)) stations frames ranges in
    All-from_recursion IsWithinLimits stations
    (each-both (λ (s : StationData). (length s.frames ≤ 1024) × HasStationRanges s)
    (λ (s : StationData). (items_in s ≤ 4096) × (s.repeat * ticks_in s ≤ 2048000000)) IsWithinLimits
    (λ s a b. record {
      frames = a.0;
      items = All-from_recursion (λ (f : FrameData). length f.items ≤ 4096) s.frames (few-items s 4096 b.0);
      ticks = omega (arith, once s.repeat (ticks_in s) a.1.repeat.0, b.1);
      repeat = a.1.repeat.0;
    }) stations both small)
