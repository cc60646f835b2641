use Rattle.std.proofs.Common.{◌≡◌, drop}
use Rattle.bus_load.specs.Load.{next_gap}
use Rattle.bus_load.proofs.costs.next_gap.Given as goal

abbrev pub invariant-loop-frame : goal.invariant-loop-frame
invariant-loop-frame l = next_gap (drop l.frame-index l.frames) ≡ next_gap l.frames
