use Rattle.bus_law_run.proofs.NextWaits.{next-waits}
use Rattle.bus_law_run.proofs.runs.the_next_message_waits.Goals as goal

pub returns : goal.returns
returns _ = next-waits
