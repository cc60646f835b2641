use Rattle.bus_law_messages.proofs.StaysSettled.{pause}
use Rattle.bus_law_messages.proofs.pauses.the_world_pauses_until_a_message_starts.Goals as goal

pub returns : goal.returns
returns _ = pause
