use Rattle.bus_law_plans.proofs.Agreed.{agreed, agreed-all}
use Rattle.bus_law_plans.proofs.EachRun.{plan-few}
use Rattle.bus_law_plans.proofs.amounts.an_agenda_has_so_many_attempts.Goals as goal

pub returns : goal.returns
returns _ = record { agenda = agreed; plan = λ plan. agreed-all plan.stations; few = plan-few }
