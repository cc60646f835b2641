use Rattle.bus_law_phases.proofs.Passing.{joined, none-passed}
use Rattle.bus_law_phases.proofs.passages.passages_follow_one_another.Goals as goal

pub returns : goal.returns
returns c = record { joined = joined; none = none-passed }
