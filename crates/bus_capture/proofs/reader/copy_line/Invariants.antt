use Rattle.std.proofs.Common.{◌≡◌, ◌*◌, take}
use Rattle.bus_capture.specs.Quiet.{pairs_in}
use Rattle.bus_capture.proofs.reader.copy_line.Given as goal

abbrev pub invariant-loop-place : goal.invariant-loop-place
invariant-loop-place l = take l.place l.ticks ≡ pairs_in (take (2 * l.place) l.bytes)
