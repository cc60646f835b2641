use Rattle.std.proofs.Common.{◌≡◌, List, [], true, length}
use Rattle.bus_base.specs.declared.samples.Pair.{Pair}
use Rattle.bus_line.specs.declared.cutter.TheConstants.{LAG}
use Rattle.bus_formats.specs.Plans.{StationData}
use Rattle.bus_controller.specs.ControllerStands.{ControllerStands}
use Rattle.bus_controller.proofs.tests.ending_after.Given as goal

-- the controller stands for the ticks so far
abbrev pub invariant-loop-tick : goal.invariant-loop-tick
invariant-loop-tick l = (station : StationData) × (past : List Pair) × ControllerStands LAG station true [] l.controller past × (length past ≡ l.tick)
