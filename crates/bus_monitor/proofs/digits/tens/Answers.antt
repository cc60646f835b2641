use Rattle.bus_monitor.proofs.DigitLaws.{tens-found}
use Rattle.bus_monitor.proofs.digits.tens.Goals as goal

pub returns : goal.returns
returns c = tens-found c.from.result c.args.n c.from.ensures c.requires
