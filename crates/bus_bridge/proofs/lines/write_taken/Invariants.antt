use Rattle.std.proofs.Common.{◌≤◌, take}
use Rattle.std.specs.Prelude.{flat_map}
use Rattle.std.specs.Io.KnownBytes.{Appends}
use Rattle.bus_bridge.specs.Lines.{taken_line}
use Rattle.bus_bridge.proofs.lines.write_taken.Given as goal

-- the lines before the index were added
abbrev pub invariant-loop-delivery : goal.invariant-loop-delivery
invariant-loop-delivery g l = record {
  lines : Appends (g.K.Sink.held l.fn.sink) (g.K.Sink.held l.sink) (flat_map taken_line (take l.delivery-index l.taken));
  later : g.K.Sink.faults l.fn.sink ≤ g.K.Sink.faults l.sink;
}
