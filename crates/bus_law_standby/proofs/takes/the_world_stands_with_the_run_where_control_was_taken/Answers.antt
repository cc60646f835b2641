use Rattle.bus_law_standby.proofs.Standing.{stands-so}
use Rattle.bus_law_standby.proofs.takes.the_world_stands_with_the_run_where_control_was_taken.Goals as goal

pub returns : goal.returns
returns _ = stands-so
