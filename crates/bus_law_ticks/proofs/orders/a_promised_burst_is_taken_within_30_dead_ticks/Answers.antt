use Rattle.std.proofs.Common.{arith}
use Rattle.bus_law_ticks.proofs.Obeys.{taken-is}
use Rattle.bus_law_ticks.proofs.orders.a_promised_burst_is_taken_within_30_dead_ticks.Goals as goal

pub returns : goal.returns
returns c = λ k terminal loads memory now past end rest slots small.
    taken-is k terminal loads memory now past small end rest slots
    (c.at_most_one_order_a_tick.ensures.channels k terminal loads memory now past (omega (arith, small)))
