use Rattle.bus_receiver.proofs.Rests.{quiet-rests}
use Rattle.bus_receiver.proofs.laws.channels_that_were_quiet_are_at_rest.Goals as goal

pub returns : goal.returns
returns _ = quiet-rests
