use Rattle.std.proofs.Common.{◌+◌, ◌<◌, List, refl, arith}
use Rattle.bus_base.specs.declared.samples.Sample.{Sample}
use Rattle.bus_planes.specs.Cutting.{Follows, BitCutterStands}
use Rattle.bus_line.specs.declared.cutter.TheConstants.{LAG}
use Rattle.bus_planes.proofs.StillLaws.{Passes, idle-pass, bridge-pass, idle-still, quiet-still, slot-still, slot-code}
use Rattle.bus_planes.proofs.cutter.BitCutter.pass.Goals as goal

idle : (c : goal.Then-not-runs) (past : List Sample) → Follows LAG c.args.self.now past → Passes LAG c.args.self.now c.args.heard c.args.plus c.args.ticks past
idle c past s =
    let rests : LAG < c.args.self.now.quiet = grind (arith, c.runs.ensures, c.if-not-runs.true) in
    idle-pass LAG c.args.self.now past s c.args.heard c.args.plus c.args.ticks rests (idle-still LAG c.args.self.now c.args.heard c.args.ticks c.requires.some rests c.requires.still)

pub returns-then-not-runs-clause-stands : goal.returns-then-not-runs-clause-stands
unfolding BitCutterStands
returns-then-not-runs-clause-stands c past s = (idle c past s).stands

pub returns-then-not-runs-clause-tells : goal.returns-then-not-runs-clause-tells
unfolding BitCutterStands
returns-then-not-runs-clause-tells c past s = (idle c past s).tells

pub returns-then-heard-eq0-clause-stands : goal.returns-then-heard-eq0-clause-stands
unfolding BitCutterStands
returns-then-heard-eq0-clause-stands c past s =
    let still = quiet-still LAG c.args.self.now c.args.heard c.args.ticks c.requires.some (omega arith) (omega arith) c.requires.still in
    (bridge-pass LAG c.args.self.now past s c.args.heard c.args.plus c.args.ticks _ (omega arith) (omega (arith, still.0)) still.1).stands

pub returns-then-heard-eq0-clause-tells : goal.returns-then-heard-eq0-clause-tells
unfolding BitCutterStands
returns-then-heard-eq0-clause-tells c past s =
    let still = quiet-still LAG c.args.self.now c.args.heard c.args.ticks c.requires.some (omega arith) (omega arith) c.requires.still in
    (bridge-pass LAG c.args.self.now past s c.args.heard c.args.plus c.args.ticks (c.args.self.now.quiet + c.args.ticks) refl still.0 still.1).tells

pub returns-clause-stands : goal.returns-clause-stands
unfolding BitCutterStands
returns-clause-stands c past s =
    let still = slot-still LAG c.args.self.now c.args.heard c.args.ticks c.requires.some (omega arith) (λ e. omega arith) c.requires.still in
    (slot-code LAG c.args.self.now past s c.args.heard c.args.plus c.args.ticks still.0 still.1 still.2).stands

pub returns-clause-tells : goal.returns-clause-tells
unfolding BitCutterStands
returns-clause-tells c past s =
    let still = slot-still LAG c.args.self.now c.args.heard c.args.ticks c.requires.some (omega arith) (λ e. omega arith) c.requires.still in
    (slot-code LAG c.args.self.now past s c.args.heard c.args.plus c.args.ticks still.0 still.1 still.2).tells
