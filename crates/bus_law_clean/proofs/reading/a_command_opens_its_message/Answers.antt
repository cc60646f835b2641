use Rattle.bus_law_clean.proofs.CommandRead.{command-read}
use Rattle.bus_law_clean.proofs.reading.a_command_opens_its_message.Goals as goal

pub returns : goal.returns
returns c = command-read
