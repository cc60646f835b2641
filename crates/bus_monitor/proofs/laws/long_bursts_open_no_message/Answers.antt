use Rattle.bus_monitor.proofs.FrontLaws.{opening-front}
use Rattle.bus_monitor.proofs.laws.long_bursts_open_no_message.Goals as goal

pub returns : goal.returns
returns c = opening-front
