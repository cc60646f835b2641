use Rattle.std.proofs.Common.{length, ◌-◌}
use Rattle.bus_capture.specs.Quiet.{IsStep}
use Rattle.bus_capture.proofs.reader.quiet_front.Given as goal

abbrev pub invariant-bytes : goal.invariant-bytes
invariant-bytes l = IsStep l.piece record { bytes = l.bytes; ticks = l.ticks }

-- proposed from the loop's first test
abbrev pub decreases-bytes : goal.decreases-bytes
decreases-bytes l = length l.piece - l.bytes
