use Rattle.std.proofs.Common.{refl}
use Rattle.bus_line.specs.Cutting.{CutterStands}
use Rattle.bus_line.specs.declared.cutter.TheConstants.{LAG}
use Rattle.bus_line.proofs.CutLaws.{new-stands}
use Rattle.bus_line.proofs.cutter.Cutter.new.Goals as goal

pub returns : goal.returns
unfolding CutterStands
returns c = record { stands = λ n. new-stands LAG n _ refl }
