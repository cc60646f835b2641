use Rattle.bus_law_run.proofs.FirstRests.{first-rests}
use Rattle.bus_law_run.proofs.rests.a_run_begins_at_rest.Goals as goal

pub returns : goal.returns
returns _ = first-rests
