use Rattle.std.proofs.Common.{arith}
use Rattle.bus_law_ticks.proofs.Obeys.{obeyed-is}
use Rattle.bus_law_ticks.proofs.orders.a_command_is_obeyed_unless_a_newer_one_came.Goals as goal

pub returns : goal.returns
returns c = λ k terminal loads memory now past channel end rest order small.
    obeyed-is k terminal loads memory now past small channel end rest order
    (c.at_most_one_order_a_tick.ensures.channels k terminal loads memory now past (omega (arith, small)))
