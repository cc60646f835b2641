use Rattle.bus_law_loads.proofs.TakenWords.{took-words}
use Rattle.bus_law_loads.proofs.loads.a_block_that_is_taken_has_words.Goals as goal

pub returns : goal.returns
returns c = λ k terminal loads hearing taken is. took-words k terminal loads hearing.memory hearing.ticks taken is
