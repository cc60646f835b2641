use Rattle.std.proofs.Common.{arith}
use Rattle.bus_station.proofs.tests.run.Goals as goal

pub hear-event-requires : goal.hear-event-requires
hear-event-requires c =
    let (plan, starts, loads, outside, past, st, here) = c.loop-now.invariant.first in
    (plan, starts, loads, outside, past, st, here, omega arith)
