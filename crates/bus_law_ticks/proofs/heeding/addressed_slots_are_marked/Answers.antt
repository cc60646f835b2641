use Rattle.bus_law_ticks.proofs.Addressed.{marked-from}
use Rattle.bus_law_ticks.proofs.heeding.addressed_slots_are_marked.Goals as goal

pub returns : goal.returns
returns c = λ k terminal loads hearing channel a small. marked-from k terminal loads hearing.memory channel small hearing.ticks a
