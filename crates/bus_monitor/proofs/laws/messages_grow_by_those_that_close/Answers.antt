use Rattle.bus_monitor.proofs.LineLaws.{message_lines-grow}
use Rattle.bus_monitor.proofs.laws.messages_grow_by_those_that_close.Goals as goal

pub returns : goal.returns
returns c k shown past short = message_lines-grow k shown past short
