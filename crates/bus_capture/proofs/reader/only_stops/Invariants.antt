use Rattle.std.proofs.Common.{◌≡◌, drop}
use Rattle.std.specs.Prelude.{◌&&◌}
use Rattle.bus_capture.specs.Quiet.{are_stops}
use Rattle.bus_capture.proofs.reader.only_stops.Given as goal

abbrev pub invariant-loop-byte : goal.invariant-loop-byte
invariant-loop-byte l = (l.only && are_stops (drop l.byte-index l.bytes)) ≡ are_stops l.bytes
