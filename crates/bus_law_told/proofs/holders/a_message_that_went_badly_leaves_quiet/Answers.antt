use Rattle.bus_law_told.proofs.HoldersClosed.{closed-waits}
use Rattle.bus_law_told.proofs.holders.a_message_that_went_badly_leaves_quiet.Goals as goal

pub returns : goal.returns
returns _ = closed-waits
