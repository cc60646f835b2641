use Rattle.bus_model.proofs.TwoOrders.{one-order}
use Rattle.bus_model.proofs.OneHandled.{out-alone}
use Rattle.bus_model.proofs.orders.at_most_one_order_a_tick.Goals as goal

pub returns : goal.returns
returns c = record { channels = one-order; alone = out-alone }
