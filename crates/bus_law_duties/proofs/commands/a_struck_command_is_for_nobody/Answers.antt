use Rattle.bus_law_duties.proofs.Obeys.{struck-for-nobody}
use Rattle.bus_law_duties.proofs.commands.a_struck_command_is_for_nobody.Goals as goal

pub returns : goal.returns
returns c = struck-for-nobody
