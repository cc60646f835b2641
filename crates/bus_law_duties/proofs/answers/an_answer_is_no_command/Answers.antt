use Rattle.bus_law_duties.proofs.Found.{left-unaddressed, answer-unaddressed}
use Rattle.bus_law_duties.proofs.answers.an_answer_is_no_command.Goals as goal

pub returns-clause-left : goal.returns-clause-left
returns-clause-left c = left-unaddressed

pub returns-clause-struck : goal.returns-clause-struck
returns-clause-struck c = answer-unaddressed
