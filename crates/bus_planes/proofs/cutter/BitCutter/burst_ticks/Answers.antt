use Rattle.std.proofs.Common.{arith}
use Rattle.bus_planes.specs.Cutting.{BitCutterStands}
use Rattle.bus_planes.proofs.cutter.BitCutter.burst_ticks.Goals as goal

pub returns : goal.returns
unfolding BitCutterStands
returns c past s runs short = grind (arith, s.runs, runs, s.here, s.quiet, short)
