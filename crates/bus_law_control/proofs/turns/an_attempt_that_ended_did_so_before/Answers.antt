use Rattle.bus_law_control.proofs.Holding.{ended-before, yielded-before, kept-tick, serves-without}
use Rattle.bus_law_control.proofs.Passing.{closed-now}
use Rattle.bus_law_control.proofs.turns.an_attempt_that_ended_did_so_before.Goals as goal

pub returns : goal.returns
returns c = record { before = ended-before; yielded = yielded-before; kept = kept-tick; closed = closed-now; serves = serves-without }
