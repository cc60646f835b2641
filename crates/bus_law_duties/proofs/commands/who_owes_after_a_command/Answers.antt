use Rattle.bus_law_duties.proofs.Owes.{who-owes}
use Rattle.bus_law_duties.proofs.OneOwes.{one-owes-at-most, none-owes}
use Rattle.bus_law_duties.proofs.commands.who_owes_after_a_command.Goals as goal

pub returns-clause-each : goal.returns-clause-each
returns-clause-each c = who-owes

pub returns-clause-one : goal.returns-clause-one
returns-clause-one c = one-owes-at-most

pub returns-clause-none : goal.returns-clause-none
returns-clause-none c = none-owes
