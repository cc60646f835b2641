use Rattle.std.proofs.Common.{[], refl}
use Rattle.bus_planes.proofs.cutter.tests.alike.Goals as goal

pub loop-sample-init : goal.loop-sample-init
loop-sample-init c = record { plain = ([], c.new-plain.ensures.stands 0, refl); bits = ([], c.new-bits.ensures.stands 0, refl) }
