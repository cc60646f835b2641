use Rattle.bus_line.proofs.Legs.{ended-leg}
use Rattle.bus_line.proofs.LegSlots.{slots-leg}
use Rattle.bus_line.proofs.laws.a_leg_is_the_burst_that_ended.Goals as goal

pub returns : goal.returns
returns c = record { ended = ended-leg; slots = slots-leg }
