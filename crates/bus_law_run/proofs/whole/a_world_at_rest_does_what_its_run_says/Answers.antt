use Rattle.bus_law_run.proofs.WholeWorld.{whole-world}
use Rattle.bus_law_run.proofs.whole.a_world_at_rest_does_what_its_run_says.Goals as goal

pub returns : goal.returns
returns _ = whole-world
