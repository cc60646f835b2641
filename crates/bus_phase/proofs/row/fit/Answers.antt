use Rattle.std.proofs.Common.{sym, arith}
use Rattle.bus_phase.proofs.RowLaws.{fit_of_front}
use Rattle.bus_phase.proofs.row.fit.Goals as goal

pub returns-then-to-from : goal.returns-then-to-from
returns-then-to-from c = sym (fit_of_front c.args.to c.args.from c.args.level c.args.samples.now (omega arith) (omega arith))
