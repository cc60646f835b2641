use Rattle.bus_law_run.proofs.BlocksKept.{station-blocks}
use Rattle.bus_law_run.proofs.BlocksTaken.{terminal-blocks}
use Rattle.bus_law_run.proofs.blocks.a_block_changes_whole.Goals as goal

pub returns : goal.returns
returns _ = record { terminal = terminal-blocks; station = station-blocks }
