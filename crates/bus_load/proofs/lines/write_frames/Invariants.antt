use Rattle.std.proofs.Common.{◌≡◌, ◌≤◌, suc, drop}
use Rattle.bus_load.specs.Lines.{frame_lines}
use Rattle.bus_load.proofs.Written.{Halfway}
use Rattle.bus_load.proofs.lines.write_frames.Given as goal

-- the lines of the frames so far were added, and those of the others are left
abbrev pub invariant-loop-frame : goal.invariant-loop-frame
invariant-loop-frame g l = record {
  number : l.number ≡ l.frame-index;
  lines : Halfway (g.K.Sink.held l.fn.sink) (g.K.Sink.held l.sink) (frame_lines l.plan 1 l.frames) (frame_lines l.plan (suc l.frame-index) (drop l.frame-index l.frames));
  later : g.K.Sink.faults l.fn.sink ≤ g.K.Sink.faults l.sink;
}
