use Rattle.bus_law_plans.proofs.Places.{station-at}
use Rattle.bus_law_plans.proofs.entries.a_station_keeps_its_place.Goals as goal

pub returns : goal.returns
returns _ = station-at
