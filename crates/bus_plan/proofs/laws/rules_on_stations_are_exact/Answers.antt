use Rattle.bus_plan.proofs.ExactStations.{apart-exact, start-exact}
use Rattle.bus_plan.proofs.laws.rules_on_stations_are_exact.Goals as goal

pub returns-clause-same_address : goal.returns-clause-same_address
returns-clause-same_address c p = apart-exact p

pub returns-clause-start : goal.returns-clause-start
returns-clause-start c p = start-exact p
