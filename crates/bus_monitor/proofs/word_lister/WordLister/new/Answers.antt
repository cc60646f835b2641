use Rattle.std.proofs.Common.{refl}
use Rattle.bus_monitor.proofs.word_lister.WordLister.new.Goals as goal

pub returns : goal.returns
returns c = record { a = c.new.ensures.stands 0; b = c.new-2.ensures.stands 0; ticks = refl }
