use Rattle.bus_standby.proofs.Waits.{begins-later}
use Rattle.bus_standby.proofs.laws.a_standby_begins_after_the_primary_stopped.Goals as goal

pub returns : goal.returns
returns _ = begins-later
