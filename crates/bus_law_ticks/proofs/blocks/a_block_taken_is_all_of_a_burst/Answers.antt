use Rattle.bus_law_ticks.proofs.TakenWords.{taken-of-burst}
use Rattle.bus_law_ticks.proofs.blocks.a_block_taken_is_all_of_a_burst.Goals as goal

pub returns : goal.returns
returns c = taken-of-burst
