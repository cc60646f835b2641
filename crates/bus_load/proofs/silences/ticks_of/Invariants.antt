use Rattle.std.proofs.Common.{◌≡◌, take}
use Rattle.std.specs.Prelude.{sum_by}
use Rattle.bus_load.proofs.silences.ticks_of.Given as goal

abbrev pub invariant-loop-frame : goal.invariant-loop-frame
invariant-loop-frame l = l.ticks ≡ sum_by (λ f. f.ticks) (take l.frame-index l.frames)
