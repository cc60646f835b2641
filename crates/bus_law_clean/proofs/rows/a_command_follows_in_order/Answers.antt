use Rattle.bus_law_clean.proofs.MessageRow.{command-follows, command-waits}
use Rattle.bus_law_clean.proofs.rows.a_command_follows_in_order.Goals as goal

pub returns : goal.returns
returns _ = record { follows = command-follows; waits = command-waits }
