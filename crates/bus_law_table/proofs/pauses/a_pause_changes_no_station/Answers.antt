use Rattle.bus_law_table.proofs.Paused.{pause-at}
use Rattle.bus_law_table.proofs.pauses.a_pause_changes_no_station.Goals as goal

pub returns : goal.returns
returns _ = pause-at
