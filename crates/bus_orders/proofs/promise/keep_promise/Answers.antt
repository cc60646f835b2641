use Rattle.std.proofs.Common.{◌≡◌, ◌∙◌, sym, None}
use Rattle.bus_words.specs.Fields.{word_count}
use Rattle.bus_model.specs.Orders.{relayed}
use Rattle.bus_orders.proofs.promise.keep_promise.Goals as goal

pub returns-in-None : goal.returns-in-None
returns-in-None c =
    let read = c.relayed.ensures in
    let none : relayed (word_count c.args.promise.command) c.args.promise.transmitter c.args.slots.now c.args.rest ≡ None =
    rw (← c.words.ensures.value) (sym read ∙ c.in-None.is) in
    rw none (c.unkept.ensures c.args.terminal.now c.args.channel)
