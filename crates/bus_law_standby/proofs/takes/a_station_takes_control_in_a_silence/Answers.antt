use Rattle.bus_law_standby.proofs.Taking.{quiet-so, takes-so, rests-so}
use Rattle.bus_law_standby.proofs.takes.a_station_takes_control_in_a_silence.Goals as goal

pub returns : goal.returns
returns _ = record { quiet = quiet-so; takes = takes-so; rests = rests-so }
