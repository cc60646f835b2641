use Rattle.bus_law_phases.proofs.SilencedStart.{begins-rested}
use Rattle.bus_law_phases.proofs.rests.the_world_begins_between_messages.Goals as goal

pub returns : goal.returns
returns c = begins-rested
