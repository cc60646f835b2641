use Rattle.bus_law_messages.proofs.Beginning.{begins-settled}
use Rattle.bus_law_messages.proofs.pauses.the_world_begins_settled.Goals as goal

pub returns : goal.returns
returns _ = begins-settled
