use Rattle.bus_monitor.proofs.DigitLaws.{ones-found}
use Rattle.bus_monitor.proofs.digits.ones.Goals as goal

pub returns : goal.returns
returns c = ones-found c.from.result c.args.n c.from.ensures c.requires
