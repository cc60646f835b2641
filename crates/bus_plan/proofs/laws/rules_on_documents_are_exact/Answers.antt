use Rattle.bus_plan.proofs.ExactTables.{rule-exact}
use Rattle.bus_plan.proofs.laws.rules_on_documents_are_exact.Goals as goal

pub returns : goal.returns
returns _ = rule-exact
