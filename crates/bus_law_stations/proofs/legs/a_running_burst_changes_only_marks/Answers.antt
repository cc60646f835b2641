use Rattle.bus_law_stations.proofs.Obeying.{running-marks, running-silent}
use Rattle.bus_law_stations.proofs.legs.a_running_burst_changes_only_marks.Goals as goal

pub returns : goal.returns
returns c = record { stands = running-marks; silent = running-silent }
