-- A plan that is read is the one that the bytes describe, and each such plan is accepted.
use Rattle.bus_plan.proofs.AcceptedLaws.{accepted_result}
use Rattle.bus_plan.proofs.read.read_plan.Goals as goal

pub returns-clause-accepted : goal.returns-clause-accepted
returns-clause-accepted c = accepted_result c.args.text.now c.plan_of_text.result c.plan_of_text.ensures.ok
