-- What holds of the first run of a plan, and is kept by each attempt, holds of every run; and so its bounds.
use Rattle.std.proofs.Common.{◌≡◌, ℕ, zero, suc, ◌+◌, ◌*◌, ◌<◌, ◌≤◌, List, [], ◌∷◌, length, Option, Some, None, refl, ap, arith, length-append}
use Rattle.std.proofs.lemmas.List.{length-reverse}
use Rattle.std.proofs.lemmas.List.Elements.{recursion_from_All}
use Rattle.std.proofs.lemmas.List.Sums.{sum_by-cons}
use Rattle.std.specs.Prelude.{find, flat_map, reverse, sum_by}
use Rattle.std.specs.List.{AllByRecursion as Each}
use Rattle.bus_formats.specs.Accepted.{HasItemRanges, HasFrameRanges, HasStationRanges, items_in, IsAccepted}
use Rattle.bus_formats.specs.Plans.{ItemData, FrameData, StationData, PlanData}
use Rattle.bus_formats.specs.declared.fault.Fault.{Fault}
use Rattle.bus_retry.specs.Retries.{next_of}
use Rattle.bus_model.specs.Attempts.{Begun}
use Rattle.bus_model.specs.Endings.{Passing}
use Rattle.bus_model.specs.Log.{words_of}
use Rattle.bus_model.specs.Memory.{TimedLoad}
use Rattle.bus_model.specs.Message.{Present, Message}
use Rattle.bus_model.specs.Run.{Run, Next, is_at, next_item, pass_control, with_message, next_attempt, attempt, attempts_after, most_attempts, first_run, run_of}
use Rattle.bus_model.specs.Strikes.{ShownBurst, burst_ticks}
use Rattle.bus_law_plans.specs.Amounts.{attempts_of, attempts_in, station_attempts, station_ticks}
use Rattle.bus_law_plans.specs.Bounds.{IsShort, frame_ticks_before, planned_for, KeepsBounds, IsWithinBounds}
use Rattle.bus_law_plans.specs.Entries.{IsRunOf}
use Rattle.bus_law_plans.specs.Memories.{AreBlocks, KeepsWordRanges}
use Rattle.bus_law_plans.specs.Sent.{begun_of, message_of}
use Rattle.bus_law_plans.proofs.Bounded.{attempt-bounds}
use Rattle.bus_law_plans.proofs.FirstRun.{first-run}
use Rattle.bus_law_plans.proofs.Growing.{found-part, begun-low}
use Rattle.bus_law_plans.proofs.Lists.{each-weaker, each-reverse}
use Rattle.bus_law_plans.proofs.NextRun.{attempt-run}
use Rattle.bus_law_plans.proofs.Ranged.{first-keeps, attempt-ranges}

-- ---- every run

-- what an attempt keeps holds of each run
pub each-run : (P : Run → Type 0) (k : ℕ) (loads : List TimedLoad) (faults : List Fault) (run : Run) → P run →
    ((r : Run) → P r → P (attempt k loads faults r)) → (n : ℕ) → P (attempts_after k loads faults n run)
unfolding attempts_after
each-run P k loads faults run first next zero = first
each-run P k loads faults run first next (suc n) = next (attempts_after k loads faults n run) (each-run P k loads faults run first next n)

-- each run is one of its plan
pub each-of-plan : (k : ℕ) (plan : PlanData) (loads : List TimedLoad) (n : ℕ) → IsAccepted plan → IsRunOf plan (attempts_after k loads plan.faults n (first_run plan))
each-of-plan k plan loads n accepted =
    each-run (IsRunOf plan) k loads plan.faults (first_run plan) (first-run plan accepted) (λ run is. attempt-run k plan loads run accepted is) n

-- each run keeps the ranges of words
pub each-ranged : (k : ℕ) (plan : PlanData) (loads : List TimedLoad) (n : ℕ) → IsAccepted plan → AreBlocks loads →
    KeepsWordRanges (attempts_after k loads plan.faults n (first_run plan))
each-ranged k plan loads n accepted blocks =
    (each-run (λ run. IsRunOf plan run × KeepsWordRanges run) k loads plan.faults (first_run plan) (first-run plan accepted, first-keeps plan accepted)
    (λ run is. (attempt-run k plan loads run accepted is.0, attempt-ranges k plan loads run blocks is.0 is.1)) n).1

-- ---- the bounds

first-planned : (stations : List Present) (address : ℕ) (o : Option Present) → find (is_at address) stations ≡ o →
    planned_for record { tick = 8; offset = 0 } o ≤ 8 + frame_ticks_before stations
first-planned stations address None found = omega arith
first-planned stations address (Some s) found = omega (arith, found-part address stations s found)

-- before the first attempt the bounds are kept
pub first-bounds : (plan : PlanData) → KeepsBounds (first_run plan)
first-bounds plan = record {
  bursts = omega arith;
  short = tt;
  quiet = omega arith;
  opens = omega arith;
  needs = omega arith;
  planned = omega (arith, first-planned (first_run plan).stations plan.start (find (is_at plan.start) (first_run plan).stations) refl);
  old = tt;
}

-- each run keeps its bounds
pub each-bounds : (k : ℕ) (plan : PlanData) (loads : List TimedLoad) (n : ℕ) → k < 24 → IsAccepted plan →
    KeepsBounds (attempts_after k loads plan.faults n (first_run plan))
each-bounds k plan loads n low accepted =
    (each-run (λ run. IsRunOf plan run × KeepsBounds run) k loads plan.faults (first_run plan) (first-run plan accepted, first-bounds plan)
    (λ run is. (attempt-run k plan loads run accepted is.0, attempt-bounds k plan loads run low accepted is.0 is.1)) n).1

-- ---- how many attempts

passed-attempts : (passes : Option Passing) (run : Run) → (pass_control passes run).attempts ≡ run.attempts
passed-attempts None run = refl
passed-attempts (Some p) run = refl

next-attempts : (k : ℕ) (loads : List TimedLoad) (faults : List Fault) (run : Run) (next : Option Next) →
    length (next_attempt k loads faults run next).attempts ≤ suc (length run.attempts)
next-attempts k loads faults run None = omega arith
next-attempts k loads faults run (Some next) =
    let begun : Begun = begun_of run next in
    let m : Message = message_of k loads faults run begun in
    let rest : Run = with_message run begun (next_of begun.entry.item begun.state m.ending.ended.outcome) (record m { ending = record m.ending { passes = None } }) in
    let same : length (pass_control m.ending.passes rest).attempts ≡ suc (length run.attempts) = ap length (passed-attempts m.ending.passes rest) in
    omega (arith, same)

attempts-few : (k : ℕ) (loads : List TimedLoad) (faults : List Fault) (n : ℕ) (run : Run) →
    length (attempts_after k loads faults n run).attempts ≤ n + length run.attempts
unfolding attempts_after
attempts-few k loads faults zero run = omega arith
attempts-few k loads faults (suc n) run =
    omega (
      arith,
      attempts-few k loads faults n run,
      next-attempts k loads faults (attempts_after k loads faults n run) (next_item (attempts_after k loads faults n run)),
    )

-- ---- within them

words-few : (bursts : List ShownBurst) → Each IsShort bursts → length (flat_map words_of bursts) ≤ 40 * length bursts
words-few [] all = omega arith
words-few (burst ∷ bursts) all =
    omega (arith, length-append (words_of burst) (flat_map words_of bursts), all.0.words, words-few bursts all.1)

within-bounds : (plan : PlanData) (most : ℕ) (run : Run) → IsRunOf plan run → KeepsBounds run → length run.attempts ≤ most → IsWithinBounds plan most run
within-bounds plan most run is keeps few =
    let words = words-few (reverse run.bursts) (each-reverse IsShort run.bursts keeps.short) in
    record {
      attempts = few;
      ticks = omega (arith, keeps.quiet, few, begun-low plan run.holder plan.stations run.stations is.stations);
      bursts = omega (arith, keeps.bursts, few);
      words = omega (arith, words, length-reverse run.bursts, keeps.bursts, few);
      short = each-weaker IsShort (λ burst. burst_ticks burst ≤ 1600) (λ burst h. h.ticks) run.bursts keeps.short;
    }

-- so many attempts are within their bounds
pub each-within : (k : ℕ) (plan : PlanData) (loads : List TimedLoad) (n : ℕ) → k < 24 → IsAccepted plan →
    IsWithinBounds plan n (attempts_after k loads plan.faults n (first_run plan))
each-within k plan loads n low accepted =
    within-bounds plan n (attempts_after k loads plan.faults n (first_run plan)) (each-of-plan k plan loads n accepted) (each-bounds k plan loads n low accepted)
    (omega (arith, attempts-few k loads plan.faults n (first_run plan)))

-- the whole run is within the bounds of its plan
pub run-within : (k : ℕ) (plan : PlanData) (loads : List TimedLoad) → k < 24 → IsAccepted plan → IsWithinBounds plan (most_attempts plan) (run_of k loads plan)
unfolding run_of
run-within k plan loads low accepted = each-within k plan loads (most_attempts plan) low accepted

-- ---- an accepted plan has few

items-few : (items : List ItemData) → Each HasItemRanges items → sum_by attempts_of items ≤ 4 * length items
items-few [] all = omega arith
items-few (item ∷ items) all = omega (arith, sum_by-cons attempts_of item items, all.0.retry, items-few items all.1)

frames-few : (frames : List FrameData) → Each HasFrameRanges frames → sum_by attempts_in frames ≤ 4 * sum_by (λ (f : FrameData). length f.items) frames
frames-few [] all = omega arith
frames-few (f ∷ frames) all =
    omega (
      arith,
      sum_by-cons attempts_in f frames,
      sum_by-cons (λ (g : FrameData). length g.items) f frames,
      items-few f.items (recursion_from_All HasItemRanges f.items all.0.items),
      frames-few frames all.1,
    )

one-more : (n a : ℕ) → suc n * a ≡ a + n * a
one-more n a = grind arith

times : (n a b : ℕ) → a ≤ 4 * b → n * a ≤ 4 * (n * b)
times zero a b h = omega arith
times (suc n) a b h = omega (arith, h, one-more n a, one-more n b, times n a b h)

stations-few : (stations : List StationData) → Each HasStationRanges stations → sum_by station_attempts stations ≤ 4 * sum_by (λ s. s.repeat * items_in s) stations
stations-few [] all = omega arith
stations-few (s ∷ stations) all =
    omega (
      arith,
      sum_by-cons station_attempts s stations,
      sum_by-cons (λ (t : StationData). t.repeat * items_in t) s stations,
      times s.repeat (sum_by attempts_in s.frames) (items_in s) (frames-few s.frames (recursion_from_All HasFrameRanges s.frames all.0.frames)),
      stations-few stations all.1,
    )

-- an accepted plan has at most 65,536 attempts, and 2,048,000,000 ticks of frames
pub plan-few : (plan : PlanData) → IsAccepted plan → (sum_by station_attempts plan.stations ≤ 65536) × (sum_by station_ticks plan.stations ≤ 2048000000)
plan-few plan accepted = (
  omega (arith, stations-few plan.stations (recursion_from_All HasStationRanges plan.stations accepted.ranges), accepted.limits.repeated_items),
  accepted.limits.repeated_ticks,
)
