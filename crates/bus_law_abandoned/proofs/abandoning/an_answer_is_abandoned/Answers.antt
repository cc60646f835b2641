use Rattle.bus_law_abandoned.proofs.Abandoned.{answer-abandoned}
use Rattle.bus_law_abandoned.proofs.abandoning.an_answer_is_abandoned.Goals as goal

pub returns : goal.returns
returns c = answer-abandoned
