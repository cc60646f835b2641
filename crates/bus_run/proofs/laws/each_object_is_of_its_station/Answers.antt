use Rattle.bus_run.proofs.AcceptedLaws.{places-length}
use Rattle.bus_run.proofs.PlaceLaws.{place-at}
use Rattle.bus_run.proofs.laws.each_object_is_of_its_station.Goals as goal

pub returns-clause-count : goal.returns-clause-count
returns-clause-count c = places-length

pub returns-clause-place : goal.returns-clause-place
returns-clause-place c = place-at
