use Rattle.bus_run.proofs.TableDeliveries.{deliveries-are}
use Rattle.bus_run.proofs.laws.terminals_take_what_the_table_delivers.Goals as goal

pub returns : goal.returns
returns _ = deliveries-are
