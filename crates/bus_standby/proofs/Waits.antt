-- When a standby begins, by the message table.
use Rattle.std.proofs.Common.{◌≡◌, ℕ, zero, suc, ◌+◌, ◌-◌, ◌≤◌, Bool, true, false, List, [], ◌∷◌, length, Option, Some, None, refl, sym, ap, ◌∙◌, subst, arith}
use Rattle.std.proofs.lemmas.Bool.{true≢false}
use Rattle.std.proofs.lemmas.Option.{none-some}
use Rattle.std.specs.Prelude.{IfSome, IsSome, option_map}
use Rattle.bus_base.specs.declared.samples.Tick.{Tick}
use Rattle.bus_formats.specs.Plans.{PlanData}
use Rattle.bus_formats.specs.declared.fault.Fault.{Fault}
use Rattle.bus_load.proofs.Continued.{always-of}
use Rattle.bus_load.proofs.NoOffers.{none-first}
use Rattle.bus_retry.specs.Retries.{next_of}
use Rattle.bus_model.specs.Attempts.{Begun}
use Rattle.bus_model.specs.Endings.{Passing}
use Rattle.bus_model.specs.Message.{Message}
use Rattle.bus_model.specs.Outside.{silence, stop_by, primary_run, stop_tick}
use Rattle.bus_model.specs.Run.{Run, Next, next_item, pass_control, with_message, next_attempt, attempt, attempts_after, first_run}
use Rattle.bus_law_plans.specs.Sent.{begun_of, message_of}
use Rattle.bus_standby.specs.Inputs.{MayStandBy}
use Rattle.bus_standby.specs.Takeover.{tick_at, table_log}

-- ---- it begins after the primary stopped

by-stop : (o : Option ℕ) (from most : ℕ) → IfSome o (λ start. start ≤ from + most) →
    IfSome (option_map tick_at o) (λ (stop : Tick). stop.0 + 40 ≤ from + (most + 40))
by-stop None from most h = tt
by-stop (Some start) from most h = omega (arith, h)

pub begins-later : (k : ℕ) (plan : PlanData) (address attempt : ℕ) → k ≤ 3 → MayStandBy plan address attempt →
    IfSome (table_log k plan address attempt).stop (λ stop. stop.0 + 40 ≤ (table_log k plan address attempt).taken.0)
unfolding silence table_log
begins-later k plan address attempt low may =
    by-stop (stop_tick k plan attempt) _ _ (always-of k plan [] low may.accepted (none-first plan may.no_offer) (attempt - 1)).next

-- ---- the attempts before

passed : (passes : Option Passing) (run : Run) → (pass_control passes run).attempts ≡ run.attempts
passed None run = refl
passed (Some p) run = refl

module _ (k : ℕ) (faults : List Fault) where
  one-more : (run : Run) (next : Next) → length (next_attempt k [] faults run (Some next)).attempts ≡ suc (length run.attempts)
  one-more run next =
      let begun : Begun = begun_of run next in
      let m : Message = message_of k [] faults run begun in
      let rest : Run = with_message run begun (next_of begun.entry.item begun.state m.ending.ended.outcome) (record m { ending = record m.ending { passes = None } }) in
      ap length (passed m.ending.passes rest)

  -- a run without a next item stays as it is
  stays : (run : Run) (o : Option Next) → next_item run ≡ o → IsSome (next_item (next_attempt k [] faults run o)) → IsSome o
  stays run None is some = subst IsSome is some
  stays run (Some next) is some = refl

  counted : (n : ℕ) (run : Run) → run.attempts ≡ [] → IsSome (next_item (attempts_after k [] faults n run)) → length (attempts_after k [] faults n run).attempts ≡ n
  unfolding attempts_after
  counted zero run none some = ap length none
  counted (suc n) run none some =
      by-next (next_item (attempts_after k [] faults n run)) refl
      (counted n run none (stays (attempts_after k [] faults n run) (next_item (attempts_after k [] faults n run)) refl some))
      (stays (attempts_after k [] faults n run) (next_item (attempts_after k [] faults n run)) refl some)
    where
      by-next : (o : Option Next) → next_item (attempts_after k [] faults n run) ≡ o → length (attempts_after k [] faults n run).attempts ≡ n →
          IsSome (next_item (attempts_after k [] faults n run)) → length (next_attempt k [] faults (attempts_after k [] faults n run) o).attempts ≡ suc n
      by-next None is rest there = absurd (true≢false (sym (subst IsSome is there)))
      by-next (Some next) is rest there = one-more (attempts_after k [] faults n run) next ∙ ap suc rest

stops-there : (run : Run) (o : Option Next) (tick : ℕ) → stop_by run o ≡ Some tick → IsSome o
stops-there run None tick is = absurd (none-some tick is)
stops-there run (Some next) tick is = refl

pub ended-before : (k : ℕ) (plan : PlanData) (attempt tick : ℕ) → 1 ≤ attempt → stop_tick k plan attempt ≡ Some tick →
    length (primary_run k plan attempt).attempts + 1 ≡ attempt
ended-before k plan attempt tick one is =
    let count = counted k plan.faults (attempt - 1) (first_run plan) refl
    (stops-there (primary_run k plan attempt) (next_item (primary_run k plan attempt)) tick is) in
    omega (arith, count, one)
