use Rattle.bus_law_phases.proofs.Staying.{is-whole, whole-stays}
use Rattle.bus_law_phases.proofs.passages.a_bus_stays_as_it_begins.Goals as goal

pub returns : goal.returns
returns c = record { whole = is-whole; stays = whole-stays }
