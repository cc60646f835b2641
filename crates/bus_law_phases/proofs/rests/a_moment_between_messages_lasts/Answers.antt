use Rattle.bus_law_phases.proofs.SilencedRest.{rest-lasts}
use Rattle.bus_law_phases.proofs.rests.a_moment_between_messages_lasts.Goals as goal

pub returns : goal.returns
returns c = rest-lasts
