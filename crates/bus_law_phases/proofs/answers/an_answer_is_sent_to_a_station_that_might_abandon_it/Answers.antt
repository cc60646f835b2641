use Rattle.bus_law_phases.proofs.AnswerPasses.{answer-passes-shown, begins-at}
use Rattle.bus_law_phases.proofs.answers.an_answer_is_sent_to_a_station_that_might_abandon_it.Goals as goal

pub returns-clause-sent : goal.returns-clause-sent
returns-clause-sent c = answer-passes-shown

pub returns-clause-begins : goal.returns-clause-begins
returns-clause-begins c = begins-at
