use Rattle.bus_standby.proofs.Waits.{ended-before}
use Rattle.bus_standby.proofs.laws.the_primary_ended_the_attempts_before.Goals as goal

pub returns : goal.returns
returns _ = ended-before
