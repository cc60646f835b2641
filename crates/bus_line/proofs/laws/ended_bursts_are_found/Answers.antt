use Rattle.bus_line.proofs.EndedLaws.{bursts-agree}
use Rattle.bus_line.proofs.laws.ended_bursts_are_found.Goals as goal

pub returns : goal.returns
returns c = bursts-agree
