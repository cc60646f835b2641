use Rattle.std.proofs.Common.{◌≡◌, take}
use Rattle.bus_run.proofs.copies.copy_frames.Given as goal

abbrev pub invariant-loop-frame : goal.invariant-loop-frame
invariant-loop-frame l = l.copied.items ≡ take l.frame-index l.frames
