use Rattle.bus_law_moments.proofs.Rests.{began-rested}
use Rattle.bus_law_moments.proofs.begun.a_message_begins_between_two_others.Goals as goal

pub returns : goal.returns
returns c = began-rested
