use Rattle.std.proofs.Common.{◌≡◌, min, take}
use Rattle.bus_plan.specs.Limits.{of_frames}
use Rattle.bus_plan.proofs.limits.of_frames.Given as goal

abbrev pub invariant-loop-frame : goal.invariant-loop-frame
invariant-loop-frame l = l.amount ≡ min 0x8000_0000 (of_frames l.measure (take l.frame-index l.frames))
