use Rattle.bus_law_run.proofs.BurstsTaken.{burst-where-taken}
use Rattle.bus_law_run.proofs.blocks.a_block_is_taken_where_a_burst_ends.Goals as goal

pub returns : goal.returns
returns _ = burst-where-taken
