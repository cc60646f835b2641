use Rattle.std.proofs.Common.{◌≡◌, take}
use Rattle.bus_controller.specs.Queue.{items_of}
use Rattle.bus_controller.proofs.queue.count_items.Given as goal

-- the items of the frames so far
abbrev pub invariant-loop-frame : goal.invariant-loop-frame
invariant-loop-frame l = l.total ≡ items_of (take l.frame-index l.frames)
