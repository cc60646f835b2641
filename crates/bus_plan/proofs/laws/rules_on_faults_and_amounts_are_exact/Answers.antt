use Rattle.bus_plan.proofs.ExactFaults.{flips-exact, faults-exact, limits-exact}
use Rattle.bus_plan.proofs.laws.rules_on_faults_and_amounts_are_exact.Goals as goal

pub returns-clause-undetectable : goal.returns-clause-undetectable
returns-clause-undetectable c doc = flips-exact doc

pub returns-clause-same_fault : goal.returns-clause-same_fault
returns-clause-same_fault c p = faults-exact p.faults

pub returns-clause-too_many : goal.returns-clause-too_many
returns-clause-too_many c head p = limits-exact head p
