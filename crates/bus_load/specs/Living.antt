-- How long both channels are quiet between the messages of the station that starts, while it lives and has items left (the project's own).
use Rattle.std.specs.Prelude.{◌≡◌, ℕ, ◌+◌, ◌≤◌, List, IfSome}
use Rattle.bus_formats.specs.Plans.{PlanData}
use Rattle.bus_model.specs.Memory.{TimedLoad}
use Rattle.bus_model.specs.Outside.{run_out, stop_by}
use Rattle.bus_model.specs.Run.{Run, next_item, first_run, attempts_after}

-- after this run the station that starts still holds control, and its next attempt, if it has one, begins at most so many ticks after the end of
-- all that was shown, of an abandoned answer that runs on too
pub record IsSoonContinued (plan : PlanData) (most : ℕ) (run : Run) : Type 0 where
  pub holder : run.holder ≡ plan.start
  pub next : IfSome (stop_by run (next_item run)) (λ start. start ≤ (run_out run.runs_on run).quiet_from + most)

-- so it is after however many attempts of the plan's run by the message table
abbrev pub IsAlwaysContinued : ℕ → List TimedLoad → PlanData → ℕ → Type 0
IsAlwaysContinued k loads plan most = (n : ℕ) → IsSoonContinued plan most (attempts_after k loads plan.faults n (first_run plan))
