use Rattle.bus_law_ticks.proofs.RunsOut.{out-is, out-leaves}
use Rattle.bus_law_ticks.proofs.orders.a_promise_ends_with_the_31st_quiet_tick.Goals as goal

pub returns : goal.returns
returns c = record {
  exactly = λ k terminal loads memory now past small.
      out-is k terminal loads memory now past small
      (λ order. c.at_most_one_order_a_tick.ensures.alone k terminal loads memory now past order small);
  ends = out-leaves;
}
