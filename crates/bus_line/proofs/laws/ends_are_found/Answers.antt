use Rattle.bus_line.proofs.LookUpLaws.{ends-agree}
use Rattle.bus_line.proofs.laws.ends_are_found.Goals as goal

pub returns : goal.returns
returns c = ends-agree
