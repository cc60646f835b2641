use Rattle.bus_law_control.proofs.Early.{needs-quiet, leg-starts, leg-breaks, both-below}
use Rattle.bus_law_control.proofs.waiting.a_message_waits_for_quiet.Goals as goal

pub returns : goal.returns
returns c = record { needs = needs-quiet; beside = leg-starts; breaks = leg-breaks; below = both-below }
