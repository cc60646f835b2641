use Rattle.bus_station.proofs.Fitting.{stations-fit}
use Rattle.bus_station.proofs.laws.the_stations_of_an_accepted_plan_fit.Goals as goal

pub returns : goal.returns
returns c = λ plan accepted. stations-fit plan accepted
