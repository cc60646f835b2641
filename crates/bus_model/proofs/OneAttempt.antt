-- One attempt more, and none.
use Rattle.std.proofs.Common.{◌≡◌, ℕ, zero, suc, List, ◌∷◌, refl}
use Rattle.std.specs.Prelude.{Option, Some, None}
use Rattle.bus_formats.specs.declared.fault.Fault.{Fault}
use Rattle.bus_formats.specs.declared.log.Attempt.{Attempt}
use Rattle.bus_model.specs.Memory.{TimedLoad}
use Rattle.bus_model.specs.Endings.{Passing}
use Rattle.bus_model.specs.Run.{Run, Next, next_item, next_attempt, pass_control, attempt, attempts_after}

-- passing control on leaves the record of the attempts
pub passing-keeps : (passes : Option Passing) (run : Run) → (pass_control passes run).attempts ≡ run.attempts
passing-keeps None run = refl
passing-keeps (Some passing) run = refl

-- an attempt adds one record
pub next-adds : (k : ℕ) (loads : List TimedLoad) (faults : List Fault) (run : Run) (next : Next) →
    (added : Attempt) × ((next_attempt k loads faults run (Some next)).attempts ≡ added ∷ run.attempts)
next-adds k loads faults run next = (_, passing-keeps _ _)

pub attempt-adds : (k : ℕ) (loads : List TimedLoad) (faults : List Fault) (run : Run) (next : Next) → next_item run ≡ Some next →
    (added : Attempt) × ((attempt k loads faults run).attempts ≡ added ∷ run.attempts)
attempt-adds k loads faults run next h = rw h (next-adds k loads faults run next)

-- without an item left an attempt changes nothing
pub attempt-none : (k : ℕ) (loads : List TimedLoad) (faults : List Fault) (run : Run) → next_item run ≡ None → attempt k loads faults run ≡ run
attempt-none k loads faults run h = rw h refl

pub attempts-none : (k : ℕ) (loads : List TimedLoad) (faults : List Fault) (run : Run) (n : ℕ) → next_item run ≡ None →
    attempts_after k loads faults n run ≡ run
unfolding attempts_after
attempts-none k loads faults run zero h = refl
attempts-none k loads faults run (suc n) h =
    rw (attempts-none k loads faults run n h) (attempt-none k loads faults run h)
