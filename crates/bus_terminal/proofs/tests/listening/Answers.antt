use Rattle.std.proofs.Common.{[], refl}
use Rattle.bus_terminal.proofs.tests.listening.Goals as goal

pub returns : goal.returns
returns c = (_, [], _, c.new-2.ensures 0, refl)
