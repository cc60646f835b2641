use Rattle.bus_law_ticks.proofs.NextBurst.{next-is}
use Rattle.bus_law_ticks.proofs.replies.the_answer_is_the_next_burst.Goals as goal

pub returns : goal.returns
returns c = λ k past first ticks answer is known. next-is k past first ticks is known answer
