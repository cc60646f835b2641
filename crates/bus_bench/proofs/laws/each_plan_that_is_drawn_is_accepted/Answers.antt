use Rattle.bus_bench.proofs.Accepted.{plan-accepted}
use Rattle.bus_bench.proofs.laws.each_plan_that_is_drawn_is_accepted.Goals as goal

pub returns : goal.returns
returns c = plan-accepted
