use Rattle.bus_law_control.proofs.Keeping.{keeps-through}
use Rattle.bus_law_control.proofs.turns.a_holder_keeps_control.Goals as goal

pub returns : goal.returns
returns c = keeps-through
