use Rattle.std.proofs.Common.{length, ◌-◌}
use Rattle.bus_capture.specs.Quiet.{IsFront}
use Rattle.bus_capture.proofs.reader.rest_of_line.Given as goal

abbrev pub invariant-bytes : goal.invariant-bytes
invariant-bytes l = IsFront l.piece l.ticks record { bytes = l.bytes; ticks = l.count }

abbrev pub decreases-bytes : goal.decreases-bytes
decreases-bytes l = length l.piece - l.bytes
