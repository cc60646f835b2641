use Rattle.std.proofs.Common.{◌≡◌, take}
use Rattle.std.specs.Prelude.{flat_map}
use Rattle.bus_capture.proofs.WriterLaws.{tick_bytes}
use Rattle.bus_capture.proofs.writer.capture_line.Given as goal

abbrev pub invariant-loop-pair : goal.invariant-loop-pair
invariant-loop-pair l = l.line.items ≡ flat_map tick_bytes (take l.pair-index l.pairs)
