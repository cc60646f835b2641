use Rattle.bus_run.proofs.AcceptedLaws.{places-without, served-without}
use Rattle.bus_run.proofs.laws.no_objects_without_subsystems.Goals as goal

pub returns-clause-places : goal.returns-clause-places
returns-clause-places c = places-without

pub returns-clause-served : goal.returns-clause-served
returns-clause-served c = served-without
