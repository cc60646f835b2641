use Rattle.std.proofs.Common.{arith}
use Rattle.bus_line.specs.declared.cutter.TheConstants.{LAG}
use Rattle.bus_planes.proofs.CutLaws.{idle-cut, pending-cut, ended-cut, quiet-stands}
use Rattle.bus_planes.proofs.cutter.BitCutter.hear_quiet.Goals as goal

pub returns-then-not-runs-clause-cut : goal.returns-then-not-runs-clause-cut
returns-then-not-runs-clause-cut c past s = idle-cut LAG c.args.self.now past s (grind (arith, c.runs.ensures, c.if-not-runs.true))

pub returns-then-runs-clause-cut : goal.returns-then-runs-clause-cut
returns-then-runs-clause-cut c past s = pending-cut LAG c.args.self.now past s (omega arith)

pub returns-then-runs-clause-stands : goal.returns-then-runs-clause-stands
returns-then-runs-clause-stands c past s =
    quiet-stands LAG c.args.self.now past s (omega arith)

pub returns-clause-cut : goal.returns-clause-cut
returns-clause-cut c past s = ended-cut LAG c.args.self.now past s (grind (arith, c.runs.ensures, c.if-not-runs.false, c.runs-2.ensures, c.if-runs.false))

pub returns-clause-stands : goal.returns-clause-stands
returns-clause-stands c past s =
    quiet-stands LAG c.args.self.now past s (omega arith)
