use Rattle.bus_law_messages.proofs.Over.{over-at}
use Rattle.bus_law_messages.proofs.commands.a_sent_command_is_heard.Goals as goal

pub returns : goal.returns
returns _ = over-at
