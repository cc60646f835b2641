use Rattle.std.proofs.Common.{◌≡◌, drop}
use Rattle.std.specs.List.{list_any}
use Rattle.bus_standby.specs.Inputs.{has_frame_items}
use Rattle.bus_standby.proofs.inputs.has_items.Given as goal

abbrev pub invariant-loop-frame : goal.invariant-loop-frame
invariant-loop-frame l = list_any has_frame_items (drop l.frame-index l.frames) ≡ list_any has_frame_items l.frames
