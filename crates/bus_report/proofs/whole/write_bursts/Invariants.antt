use Rattle.std.proofs.Common.{◌≤◌, take}
use Rattle.std.specs.Prelude.{flat_map}
use Rattle.std.specs.Io.KnownBytes.{Appends}
use Rattle.bus_report.specs.Report.{burst_line}
use Rattle.bus_report.proofs.whole.write_bursts.Given as goal

-- the lines before the index were added
abbrev pub invariant-loop-burst : goal.invariant-loop-burst
invariant-loop-burst g l = record {
  lines : Appends (g.K.Sink.held l.fn.sink) (g.K.Sink.held l.sink) (flat_map burst_line (take l.burst-index l.bursts));
  later : g.K.Sink.faults l.fn.sink ≤ g.K.Sink.faults l.sink;
}
