use Rattle.bus_law_parts.proofs.Leavings.{fresh-silent, fresh-first}
use Rattle.bus_law_parts.proofs.leaving.a_silent_station_is_fresh.Goals as goal

pub returns : goal.returns
returns c = record { silent = fresh-silent; first = fresh-first }
