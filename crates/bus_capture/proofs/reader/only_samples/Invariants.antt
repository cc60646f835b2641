use Rattle.std.proofs.Common.{◌≡◌, drop}
use Rattle.std.specs.Prelude.{◌&&◌}
use Rattle.bus_capture.specs.Quiet.{are_samples}
use Rattle.bus_capture.proofs.reader.only_samples.Given as goal

abbrev pub invariant-loop-byte : goal.invariant-loop-byte
invariant-loop-byte l = (l.only && are_samples (drop l.byte-index l.bytes)) ≡ are_samples l.bytes
