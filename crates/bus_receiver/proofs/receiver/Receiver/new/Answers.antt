use Rattle.std.proofs.Common.{refl}
use Rattle.bus_receiver.specs.Moments.{ReceiverStands}
use Rattle.bus_receiver.proofs.receiver.Receiver.new.Goals as goal

pub returns : goal.returns
unfolding ReceiverStands
returns c = record { cutters = c.new.ensures 0 0; next = refl; quiet = refl }
