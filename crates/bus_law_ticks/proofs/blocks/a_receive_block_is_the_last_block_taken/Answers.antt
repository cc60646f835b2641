use Rattle.bus_law_ticks.proofs.LastTaken.{last-taken, none-taken}
use Rattle.bus_law_ticks.proofs.blocks.a_receive_block_is_the_last_block_taken.Goals as goal

pub returns : goal.returns
returns c = record {
  last = λ k terminal loads hearing sub t taken. last-taken k terminal loads hearing.memory hearing.ticks sub t taken;
  none = λ k terminal loads hearing sub. none-taken k terminal loads hearing.memory hearing.ticks sub;
}
