use Rattle.std.proofs.Common.{None}
use Rattle.bus_orders.proofs.Data.{relayed-first}
use Rattle.bus_orders.proofs.promise.relayed.Goals as goal

pub returns-in-len1-up : goal.returns-in-len1-up
returns-in-len1-up c = rw (c.data_from.ensures, c.command_in.ensures)
    (relayed-first c.args.count c.args.transmitter c.args.rest c.args.slots.now None c.in-len1-up.len_at_least c.if-rest-ne0.false)
