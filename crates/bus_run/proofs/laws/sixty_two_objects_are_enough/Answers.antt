use Rattle.bus_run.proofs.AcceptedLaws.{places-below}
use Rattle.bus_run.proofs.laws.sixty_two_objects_are_enough.Goals as goal

pub returns : goal.returns
returns c = places-below
