use Rattle.bus_law_phases.proofs.AnswerHolders.{closed-attempts, no-attempts}
use Rattle.bus_law_phases.proofs.answers.an_attempt_ends_with_its_answer.Goals as goal

pub returns-clause-closed : goal.returns-clause-closed
returns-clause-closed c = closed-attempts

pub returns-clause-none : goal.returns-clause-none
returns-clause-none c = no-attempts
