use Rattle.std.proofs.Common.{arith}
use Rattle.bus_bridge.proofs.Kept.{drop-past}
use Rattle.bus_bridge.proofs.SecondBus.{none-due, none-left}
use Rattle.bus_bridge.proofs.bridge.Bridge.load_due.Goals as goal

pub returns-else-self-len : goal.returns-else-self-len
returns-else-self-len c plan first t runs =
    none-due plan first t _ runs (none-left plan first t _ runs (drop-past c.args.self.now.taken.items c.args.self.now.loaded (let past = c.if-self-len.false in let is = c.len.ensures in omega (arith, past, is))))
