use Rattle.std.proofs.Common.{◌≤◌, take}
use Rattle.std.specs.Io.KnownBytes.{Appends}
use Rattle.bus_report.specs.Report.{attempt_lines}
use Rattle.bus_report.proofs.whole.attempts.Given as goal

-- the lines before the index were added
abbrev pub invariant-loop-i : goal.invariant-loop-i
invariant-loop-i g l = record {
  lines : Appends (g.K.Sink.held l.fn.sink) (g.K.Sink.held l.sink) (attempt_lines 1 (take l.i l.attempts));
  later : g.K.Sink.faults l.fn.sink ≤ g.K.Sink.faults l.sink;
}
