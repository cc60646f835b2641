use Rattle.bus_law_stations.proofs.StillStation.{still-so-far, still-after, still-terminal, still-quiet}
use Rattle.bus_law_stations.proofs.silence.quiet_ticks_change_no_station.Goals as goal

pub returns : goal.returns
returns c = record { stands = still-so-far; course = still-after; terminal = still-terminal; silent = still-quiet }
