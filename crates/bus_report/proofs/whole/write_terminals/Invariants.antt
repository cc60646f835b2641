use Rattle.std.proofs.Common.{◌≤◌, length, map, drop}
use Rattle.bus_report.specs.Report.{terminal_lines}
use Rattle.bus_report.proofs.Halfway.{Halfway}
use Rattle.bus_report.proofs.whole.write_terminals.Given as goal

-- the lines of the terminals before the index were added, and of the subsystems before the place
abbrev pub invariant-loop-terminal : goal.invariant-loop-terminal
invariant-loop-terminal g l =
    record {
      lines : Halfway (g.K.Sink.held l.fn.sink) (g.K.Sink.held l.sink)
          (terminal_lines l.blocks l.plan l.terminals (map (λ b. (goal.Subsystem-dyn g (b.vtable, b.value)).said b.value) l.subsystems))
          (terminal_lines l.blocks l.plan (drop l.terminal-index l.terminals)
          (drop l.place (map (λ b. (goal.Subsystem-dyn g (b.vtable, b.value)).said b.value) l.subsystems)));
      place : l.place ≤ length l.subsystems;
      later : g.K.Sink.faults l.fn.sink ≤ g.K.Sink.faults l.sink;
    }
