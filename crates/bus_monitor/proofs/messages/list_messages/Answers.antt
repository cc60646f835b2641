use Rattle.std.proofs.Common.{refl}
use Rattle.bus_line.specs.Channels.{bursts}
use Rattle.bus_monitor.specs.Messages.{messages}
use Rattle.bus_monitor.specs.Progress.{message_lines}
use Rattle.bus_monitor.proofs.messages.list_messages.Goals as goal

pub list-requires-clause-lines : goal.list-requires-clause-lines
unfolding message_lines messages bursts
list-requires-clause-lines g c = refl
