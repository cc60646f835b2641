use Rattle.bus_line.proofs.CollectLaws.{cut-collects, end-closes, slot-fills}
use Rattle.bus_line.proofs.laws.cuts_add_up.Goals as goal

pub returns : goal.returns
returns c = record { collects = cut-collects; closes = end-closes; fills = slot-fills }
