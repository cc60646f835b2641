use Rattle.std.proofs.Common.{◌≡◌, List, length}
use Rattle.bus_base.specs.declared.samples.Sample.{Sample}
use Rattle.bus_line.specs.declared.cutter.TheConstants.{LAG}
use Rattle.bus_line.specs.Cutting.{CutterStands}
use Rattle.bus_line.proofs.cutter.tests.cuts.Given as goal

-- so many samples were heard, and there is room for four cuts
abbrev pub invariant-loop-tick : goal.invariant-loop-tick
invariant-loop-tick l = record {
  heard : (past : List Sample) × CutterStands LAG l.cutter past × (length past ≡ l.tick);
  room : length l.cuts ≡ 4;
}
