use Rattle.bus_survey.proofs.AloneLaws.{each-alone}
use Rattle.bus_survey.proofs.laws.a_plan_with_one_fault_alone_is_accepted.Goals as goal

pub returns : goal.returns
returns c = each-alone
