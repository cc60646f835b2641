use Rattle.std.proofs.Common.{[], refl}
use Rattle.bus_line.proofs.cutter.tests.cuts.Goals as goal

pub loop-tick-init : goal.loop-tick-init
loop-tick-init c = record { heard = ([], c.new-cutter.ensures.stands 0, refl); room = refl }
