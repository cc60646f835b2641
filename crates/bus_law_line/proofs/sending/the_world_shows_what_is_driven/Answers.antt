use Rattle.bus_law_line.proofs.Sent.{world-shown}
use Rattle.bus_law_line.proofs.sending.the_world_shows_what_is_driven.Goals as goal

pub returns : goal.returns
returns c = world-shown
