use Rattle.bus_law_whole.proofs.Changing.{changed-before, changed-stays, changed-shows}
use Rattle.bus_law_whole.proofs.changes.a_bus_goes_on_without_those_that_left.Goals as goal

pub returns : goal.returns
returns _ = record { before = changed-before; stays = changed-stays; shows = changed-shows }
