use Rattle.bus_line.proofs.LookUpLaws.{slots-agree}
use Rattle.bus_line.proofs.laws.slots_are_found.Goals as goal

pub returns : goal.returns
returns c = slots-agree
