use Rattle.bus_law_stations.proofs.Unheeded.{quiet-unheeded}
use Rattle.bus_law_stations.proofs.legs.a_quiet_channel_is_not_heeded.Goals as goal

pub returns : goal.returns
returns c = quiet-unheeded
