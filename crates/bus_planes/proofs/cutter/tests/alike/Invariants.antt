use Rattle.std.proofs.Common.{◌≡◌, List, length}
use Rattle.bus_base.specs.declared.samples.Sample.{Sample}
use Rattle.bus_line.specs.declared.cutter.TheConstants.{LAG}
use Rattle.bus_line.specs.Cutting.{CutterStands}
use Rattle.bus_planes.specs.Cutting.{BitCutterStands}
use Rattle.bus_planes.proofs.cutter.tests.alike.Given as goal

-- both cutters heard so many samples
abbrev pub invariant-loop-sample : goal.invariant-loop-sample
invariant-loop-sample l = record {
  plain : (past : List Sample) × CutterStands LAG l.plain past × (length past ≡ l.sample-index);
  bits : (past : List Sample) × BitCutterStands LAG l.bits past × (length past ≡ l.sample-index);
}
