use Rattle.std.proofs.Common.{sym, arith}
use Rattle.bus_recording.proofs.Tenfold.{past}
use Rattle.bus_recording.proofs.number.+tenfold.Goals as goal

pub returns-then-value-gt-GREATEST : goal.returns-then-value-gt-GREATEST
returns-then-value-gt-GREATEST t c = sym (past c.args.times c.args.value (omega arith))
