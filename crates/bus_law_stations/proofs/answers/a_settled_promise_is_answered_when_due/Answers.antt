use Rattle.bus_law_stations.proofs.Due.{settled-due}
use Rattle.bus_law_stations.proofs.answers.a_settled_promise_is_answered_when_due.Goals as goal

pub returns : goal.returns
returns _ = settled-due
