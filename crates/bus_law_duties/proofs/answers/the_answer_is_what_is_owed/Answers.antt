use Rattle.bus_law_duties.proofs.Answering.{answer-found, none-found, only-owed}
use Rattle.bus_law_duties.proofs.answers.the_answer_is_what_is_owed.Goals as goal

pub returns-clause-found : goal.returns-clause-found
returns-clause-found c = answer-found

pub returns-clause-none : goal.returns-clause-none
returns-clause-none c = none-found

pub returns-clause-only : goal.returns-clause-only
returns-clause-only c = only-owed
