use Rattle.std.proofs.Common.{sym, ◌∙◌}
use Rattle.bus_monitor.proofs.list.list_by.Goals as goal

pub list_from-requires-clause-lines : goal.list_from-requires-clause-lines
list_from-requires-clause-lines g c = c.requires.lines ∙ sym c.new.ensures
