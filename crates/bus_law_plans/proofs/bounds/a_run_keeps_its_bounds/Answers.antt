use Rattle.bus_law_plans.proofs.Bounded.{attempt-bounds}
use Rattle.bus_law_plans.proofs.EachRun.{first-bounds, each-bounds, each-within, run-within}
use Rattle.bus_law_plans.proofs.bounds.a_run_keeps_its_bounds.Goals as goal

pub returns : goal.returns
returns _ = record { first = first-bounds; next = attempt-bounds; kept = each-bounds; each = each-within; all = run-within }
