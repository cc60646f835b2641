use Rattle.std.proofs.Common.{arith}
use Rattle.std.proofs.lemmas.Bool.Decides.{nat_tests}
use Rattle.bus_planes.specs.Cutting.{BitCutterStands}
use Rattle.bus_planes.proofs.cutter.BitCutter.quiet_ticks.Goals as goal

pub returns : goal.returns
unfolding BitCutterStands
returns c past s on = s.quiet (grind (arith, nat_tests, s.runs, on))
