use Rattle.bus_planes.specs.Cutting.{BitCutterStands}
use Rattle.bus_line.specs.declared.cutter.TheConstants.{LAG}
use Rattle.bus_planes.proofs.CutLaws.{new-stands}
use Rattle.bus_planes.proofs.cutter.BitCutter.new.Goals as goal

pub returns : goal.returns
unfolding BitCutterStands
returns c = record { stands = λ n. new-stands LAG n }
