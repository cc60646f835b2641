use Rattle.bus_run.proofs.Beginning.{as-begun}
use Rattle.bus_run.proofs.alone.run_without_subsystems.Goals as goal

pub returns : goal.returns
returns c = (c.finish.ensures c.args.plan.now 0 _ c.in_ok-bus.ensures.bus (as-begun c.args.plan.now _ _ _ c.in_ok-bus.ensures.serves)).0
