use Rattle.std.proofs.Common.{rules}
use Rattle.bus_wave.proofs.DelayLaws.{tick-begun}
use Rattle.bus_wave.proofs.delay_line.DelayLine.begin.Goals as goal

pub returns : goal.returns
returns c = tick-begun c.args.self.now c.args.ticks c.code_of.result c.args.shown (search rules) c.code_of.ensures.code
