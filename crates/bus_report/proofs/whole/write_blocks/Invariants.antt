use Rattle.std.proofs.Common.{◌≤◌, take}
use Rattle.std.specs.Prelude.{flat_map}
use Rattle.std.specs.Io.KnownBytes.{Appends}
use Rattle.bus_report.specs.Report.{block_of}
use Rattle.bus_report.proofs.whole.write_blocks.Given as goal

-- the lines before the index were added
abbrev pub invariant-loop-block : goal.invariant-loop-block
invariant-loop-block g l = record {
  lines : Appends (g.K.Sink.held l.fn.sink) (g.K.Sink.held l.sink) (flat_map (block_of l.address) (take l.block-index l.blocks));
  later : g.K.Sink.faults l.fn.sink ≤ g.K.Sink.faults l.sink;
}
