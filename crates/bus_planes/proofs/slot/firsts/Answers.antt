use Rattle.std.proofs.Common.{arith}
use Rattle.bus_planes.proofs.FirstHalves.{sixteen-of-fours}
use Rattle.bus_planes.proofs.slot.firsts.Goals as goal

pub returns : goal.returns
returns c =
    omega (arith, c.four_firsts.ensures.value, c.four_firsts-2.ensures.value, c.four_firsts-3.ensures.value, c.four_firsts-4.ensures.value, sixteen-of-fours c.args.plus)
