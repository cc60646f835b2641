use Rattle.bus_law_duties.proofs.Settled.{none-stands, others-stay, who-owes-answer, one-owes-answer, none-owes-answer}
use Rattle.bus_law_duties.proofs.answers.who_owes_after_an_answer.Goals as goal

pub returns-clause-each : goal.returns-clause-each
returns-clause-each c k loads channel start hits item station answer = who-owes-answer k loads channel start hits item answer station

pub returns-clause-one : goal.returns-clause-one
returns-clause-one c k loads channel start hits item stations answer = one-owes-answer k loads channel start hits item answer stations

pub returns-clause-none : goal.returns-clause-none
returns-clause-none c k loads channel start hits item stations answer = none-owes-answer k loads channel start hits item answer stations

pub returns-clause-settled : goal.returns-clause-settled
returns-clause-settled c = none-stands

pub returns-clause-others : goal.returns-clause-others
returns-clause-others c = others-stay
