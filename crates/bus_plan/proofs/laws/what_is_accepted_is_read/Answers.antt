use Rattle.bus_plan.proofs.ExactPlans.{read-exact}
use Rattle.bus_plan.proofs.laws.what_is_accepted_is_read.Goals as goal

pub returns : goal.returns
returns _ = read-exact
