use Rattle.bus_law_messages.proofs.Sending.{sent-at}
use Rattle.bus_law_messages.proofs.commands.a_command_is_sent_alone.Goals as goal

pub returns : goal.returns
returns _ = sent-at
