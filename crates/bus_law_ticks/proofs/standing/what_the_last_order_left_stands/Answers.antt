use Rattle.bus_law_ticks.proofs.LastOrder.{last-left, none-left}
use Rattle.bus_law_ticks.proofs.standing.what_the_last_order_left_stands.Goals as goal

pub returns : goal.returns
returns c = record {
  last = λ k terminal loads hearing t now order. last-left k terminal loads hearing.memory hearing.ticks t now order;
  none = λ k terminal loads hearing. none-left k terminal loads hearing.memory hearing.ticks;
}
