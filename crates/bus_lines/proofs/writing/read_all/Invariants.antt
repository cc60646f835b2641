use Rattle.std.proofs.Common.{◌≤◌, length}
use Rattle.bus_lines.proofs.ReadLaws.{Reading}
use Rattle.bus_lines.proofs.writing.read_all.Given as goal

-- these bytes are read, and none was refused
abbrev pub invariant-pieces : goal.invariant-pieces
invariant-pieces g l =
    Reading l.left (g.S.Source.left l.initial.source) (g.S.Source.left l.source) l.initial.converter l.converter l.initial.text l.text
    (g.K.Sink.held l.initial.sink) (g.K.Sink.held l.sink)
    × (length l.text ≤ 3000)
    × (g.S.Source.faults l.initial.source ≤ g.S.Source.faults l.source)
    × (g.K.Sink.faults l.initial.sink ≤ g.K.Sink.faults l.sink)

-- the bytes that are left
abbrev pub decreases-pieces : goal.decreases-pieces
decreases-pieces g l = l.left
