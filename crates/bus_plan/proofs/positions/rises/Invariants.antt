use Rattle.std.proofs.Common.{◌≡◌, drop}
use Rattle.bus_plan.specs.Positions.{rises}
use Rattle.bus_plan.proofs.positions.rises.Given as goal

abbrev pub invariant-loop-position : goal.invariant-loop-position
invariant-loop-position l = rises l.low l.range.high (drop l.position-index l.positions) ≡ rises l.range.low l.range.high l.positions
