use Rattle.std.proofs.Common.{arith}
use Rattle.bus_wave.proofs.DelayLaws.{mark-added}
use Rattle.bus_wave.proofs.delay_line.DelayLine.mark.Goals as goal

pub returns-then-ticks-tick-le-HORIZON : goal.returns-then-ticks-tick-le-HORIZON
returns-then-ticks-tick-le-HORIZON c =
    mark-added c.args.self.now c.add.new.self c.args.channel c.args.ticks c.args.tick c.args.mark (omega (arith, c.if-tick-ticks.true))
    (omega (arith, c.if-ticks-tick-le-HORIZON.true)) c.add.ensures.put c.add.ensures.others
