use Rattle.std.proofs.Common.{sym, ◌∙◌, arith}
use Rattle.bus_line.proofs.Spelled.{spelling_at}
use Rattle.bus_line.proofs.spelling.sample_of.Goals as goal

pub returns : goal.returns
returns c = c.sample_at.ensures ∙ sym (spelling_at c.args.word c.args.position (omega arith))
