use Rattle.bus_law_stations.proofs.StillTerminal.{still-stands, still-silent, still-takes, still-accepts}
use Rattle.bus_law_stations.proofs.silence.quiet_ticks_change_no_terminal.Goals as goal

pub returns : goal.returns
returns c = record { stands = still-stands; silent = still-silent; takes = still-takes; accepts = still-accepts }
