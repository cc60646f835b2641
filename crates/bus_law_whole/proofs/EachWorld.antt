-- The world of each accepted plan does what its run says.
use Rattle.std.proofs.Common.{◌≡◌, None}
use Rattle.bus_formats.specs.Accepted.{IsAccepted}
use Rattle.bus_formats.specs.Plans.{PlanData}
use Rattle.bus_model.specs.Run.{next_item}
use Rattle.bus_law_run.specs.WorldIsRun.{plan_scenario, plan_run, WorldIsRun}
use Rattle.bus_law_run.proofs.WholeWorld.{plan-scenario}
use Rattle.bus_law_whole.proofs.MessagesTold.{messages-told}
use Rattle.bus_law_whole.proofs.WholeRun.{world-is-run}

pub each-world : (plan : PlanData) → IsAccepted plan → next_item (plan_run plan) ≡ None → WorldIsRun plan
each-world plan accepted = world-is-run plan accepted (messages-told (plan_scenario plan) (plan-scenario plan accepted).bus)
