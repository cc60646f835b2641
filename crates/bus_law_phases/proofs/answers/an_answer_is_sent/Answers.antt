use Rattle.bus_law_phases.proofs.AnswerPasses.{answer-passes}
use Rattle.bus_law_phases.proofs.answers.an_answer_is_sent.Goals as goal

pub returns : goal.returns
returns c = answer-passes
