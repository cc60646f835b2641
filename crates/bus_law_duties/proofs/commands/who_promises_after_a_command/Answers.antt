use Rattle.bus_law_duties.proofs.Promised.{who-promises}
use Rattle.bus_law_duties.proofs.commands.who_promises_after_a_command.Goals as goal

pub returns-clause-only : goal.returns-clause-only
returns-clause-only c = who-promises
