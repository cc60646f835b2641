use Rattle.bus_law_stations.proofs.Due.{obeyed-due}
use Rattle.bus_law_stations.proofs.answers.an_obeyed_command_is_answered_when_due.Goals as goal

pub returns : goal.returns
returns _ = obeyed-due
