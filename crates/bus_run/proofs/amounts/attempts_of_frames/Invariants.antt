use Rattle.std.proofs.Common.{◌≡◌, take}
use Rattle.std.specs.Prelude.{sum_by}
use Rattle.bus_run.specs.Amounts.{counted, attempts_of_frame}
use Rattle.bus_run.proofs.amounts.attempts_of_frames.Given as goal

abbrev pub invariant-loop-frame : goal.invariant-loop-frame
invariant-loop-frame l = l.amount ≡ counted (sum_by attempts_of_frame (take l.frame-index l.frames))
