-- All blocks of a run were delivered whole, each by one of its attempts.
use Rattle.std.proofs.Common.{◌≡◌, ℕ, zero, suc, true, List, Option, Some, None, refl, arith}
use Rattle.std.specs.Prelude.{reverse}
use Rattle.std.specs.List.{AllByRecursion as Each}
use Rattle.bus_formats.specs.Accepted.{IsAccepted}
use Rattle.bus_formats.specs.Plans.{PlanData}
use Rattle.bus_retry.specs.Retries.{next_of}
use Rattle.bus_model.specs.Attempts.{Begun}
use Rattle.bus_model.specs.Endings.{Passing}
use Rattle.bus_model.specs.Memory.{TimedLoad}
use Rattle.bus_model.specs.Message.{Delivered, Message}
use Rattle.bus_model.specs.Run.{Run, Next, next_item, pass_control, with_message, next_attempt, attempts_after, first_run}
use Rattle.bus_law_plans.specs.Sent.{begun_of, message_of, IsSentBlock, IsDeliveredIn}
use Rattle.bus_law_plans.proofs.Delivered.{delivers-whole}
use Rattle.bus_law_plans.proofs.EachRun.{each-of-plan}
use Rattle.bus_law_plans.proofs.Lists.{each-append, each-weaker, and-both, each-reverse}

-- control that passes leaves the blocks, and whether no count was deceived
passed : (P : List Delivered → Type 0) (passes : Option Passing) (run : Run) → (run.counted ≡ true → P run.deliveries) →
    (pass_control passes run).counted ≡ true → P (pass_control passes run).deliveries
passed P None run h counted = h counted
passed P (Some p) run h counted = h counted

module _ (k : ℕ) (plan : PlanData) (loads : List TimedLoad) (accepted : IsAccepted plan) where
  abbrev run-after : ℕ → Run
  run-after n = attempts_after k loads plan.faults n (first_run plan)

  later : (n : ℕ) (d : Delivered) → IsDeliveredIn k loads plan n d → IsDeliveredIn k loads plan (suc n) d
  later n d is = record { before = is.before; within = omega (arith, is.within); next = is.next; next_is = is.next_is; sent = is.sent }

  one-more : (n : ℕ) (next : Option Next) → next_item (run-after n) ≡ next →
      ((run-after n).counted ≡ true → Each (IsDeliveredIn k loads plan n) (run-after n).deliveries) →
      (next_attempt k loads plan.faults (run-after n) next).counted ≡ true →
      Each (IsDeliveredIn k loads plan (suc n)) (next_attempt k loads plan.faults (run-after n) next).deliveries
  one-more n None given before counted =
      each-weaker (IsDeliveredIn k loads plan n) (IsDeliveredIn k loads plan (suc n)) (later n) (run-after n).deliveries (before counted)
  one-more n (Some next) given before counted =
      let begun : Begun = begun_of (run-after n) next in
      let m : Message = message_of k loads plan.faults (run-after n) begun in
      let rest : Run = with_message (run-after n) begun (next_of begun.entry.item begun.state m.ending.ended.outcome)
      (record m { ending = record m.ending { passes = None } }) in
      passed (Each (IsDeliveredIn k loads plan (suc n))) m.ending.passes rest
      (λ all.
      let both = and-both (run-after n).counted m.counted all in
      each-append (IsDeliveredIn k loads plan (suc n)) (reverse m.deliveries) (run-after n).deliveries
      (each-reverse (IsDeliveredIn k loads plan (suc n)) m.deliveries
      (each-weaker (IsSentBlock k loads plan.faults (run-after n) begun) (IsDeliveredIn k loads plan (suc n))
      (λ d sent. record { before = n; within = omega arith; next = next; next_is = given; sent = sent }) m.deliveries
      (delivers-whole k plan loads (run-after n) next accepted (each-of-plan k plan loads n accepted) given both.1)))
      (each-weaker (IsDeliveredIn k loads plan n) (IsDeliveredIn k loads plan (suc n)) (later n) (run-after n).deliveries (before both.0))) counted

-- of each run of an accepted plan
pub all-delivered : (k : ℕ) (plan : PlanData) (loads : List TimedLoad) (n : ℕ) → IsAccepted plan →
    (attempts_after k loads plan.faults n (first_run plan)).counted ≡ true →
    Each (IsDeliveredIn k loads plan n) (attempts_after k loads plan.faults n (first_run plan)).deliveries
unfolding attempts_after
all-delivered k plan loads zero accepted counted = tt
all-delivered k plan loads (suc n) accepted counted =
    one-more k plan loads accepted n (next_item (attempts_after k loads plan.faults n (first_run plan))) refl
    (all-delivered k plan loads n accepted) counted
