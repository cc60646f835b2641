use Rattle.std.proofs.Common.{arith}
use Rattle.bus_monitor.proofs.channel_lister.ChannelLister.still.Goals as goal

pub returns-in-Some-clause-still : goal.returns-in-Some-clause-still
returns-in-Some-clause-still c n few = c.still-ticks.ensures.still n (grind (arith, few))
