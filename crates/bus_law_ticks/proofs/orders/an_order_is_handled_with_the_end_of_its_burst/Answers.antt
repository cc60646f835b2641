use Rattle.bus_law_ticks.proofs.Handled.{obeyed-known, settled-known}
use Rattle.bus_law_ticks.proofs.orders.an_order_is_handled_with_the_end_of_its_burst.Goals as goal

pub returns : goal.returns
returns c = record { obeyed = obeyed-known; settled = settled-known }
