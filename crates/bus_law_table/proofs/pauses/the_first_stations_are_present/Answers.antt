use Rattle.bus_law_table.proofs.Paused.{first-present, first-unheard}
use Rattle.bus_law_table.proofs.pauses.the_first_stations_are_present.Goals as goal

pub returns-clause-stations : goal.returns-clause-stations
returns-clause-stations _ = first-present

pub returns-clause-unheard : goal.returns-clause-unheard
returns-clause-unheard _ = first-unheard
