use Rattle.bus_law_stations.proofs.StillController.{still-course, still-drive}
use Rattle.bus_law_stations.proofs.silence.quiet_ticks_change_no_controller.Goals as goal

pub returns : goal.returns
returns c = record { stands = still-course; silent = still-drive }
