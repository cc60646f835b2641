use Rattle.std.proofs.Common.{◌≤◌, length}
use Rattle.bus_lines.specs.Converting.{ticks_due}
use Rattle.bus_lines.proofs.TellLaws.{Telling}
use Rattle.bus_lines.proofs.converter.Converter.tell.Given as goal

-- some of the ticks are told
abbrev pub invariant-ticks : goal.invariant-ticks
invariant-ticks g l =
    Telling l.fn.self l.self l.fn.text l.text (g.K.Sink.held l.fn.sink) (g.K.Sink.held l.sink)
    × (length l.text ≤ 3000) × (g.K.Sink.faults l.fn.sink ≤ g.K.Sink.faults l.sink)

abbrev pub decreases-ticks : goal.decreases-ticks
decreases-ticks g l = ticks_due l.self
