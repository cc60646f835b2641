use Rattle.bus_line.proofs.CutNow.{cut-tells}
use Rattle.bus_line.proofs.laws.a_cut_tells_what_ended.Goals as goal

pub returns : goal.returns
returns c = cut-tells
