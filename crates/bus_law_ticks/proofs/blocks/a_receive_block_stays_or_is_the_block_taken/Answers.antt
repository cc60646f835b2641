use Rattle.bus_law_ticks.proofs.LastTaken.{stays-or-taken, taken-there, shown}
use Rattle.bus_law_ticks.proofs.blocks.a_receive_block_stays_or_is_the_block_taken.Goals as goal

pub returns : goal.returns
returns c = record { either = stays-or-taken; taken = taken-there; loaded = shown }
