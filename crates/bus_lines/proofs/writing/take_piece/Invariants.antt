use Rattle.std.proofs.Common.{◌≤◌, length, drop}
use Rattle.bus_lines.proofs.TakingLaws.{Taking}
use Rattle.bus_lines.proofs.writing.take_piece.Given as goal

-- some bytes are taken, and none was refused
abbrev pub invariant-loop-byte : goal.invariant-loop-byte
invariant-loop-byte g l =
    Taking l.piece (drop l.byte-index l.piece) l.initial.converter l.converter l.initial.text l.text (g.K.Sink.held l.initial.sink) (g.K.Sink.held l.sink)
    × (length l.text ≤ 3000) × (g.K.Sink.faults l.initial.sink ≤ g.K.Sink.faults l.sink)
