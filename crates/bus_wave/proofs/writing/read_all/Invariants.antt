use Rattle.std.proofs.Common.{◌≡◌, ℕ, suc, ◌+◌, ◌≤◌, List, length, reverse}
use Rattle.std.specs.Io.KnownBytes.{Consumes}
use Rattle.bus_capture.specs.Readings.{text_limit}
use Rattle.bus_wave.specs.Written.{WaveFollows}
use Rattle.bus_wave.proofs.writing.read_all.Given as goal

abbrev pub invariant-pieces : goal.invariant-pieces
invariant-pieces g l =
    (input : List ℕ)
    × Consumes (g.S.Source.left l.initial.source) (g.S.Source.left l.source) input
    × (l.left + length input ≡ suc text_limit)
    × WaveFollows l.writer (reverse input) (g.K.Sink.held l.initial.sink) (g.K.Sink.held l.sink)
    × (g.S.Source.faults l.initial.source ≤ g.S.Source.faults l.source)
    × (g.K.Sink.faults l.initial.sink ≤ g.K.Sink.faults l.sink)

abbrev pub decreases-pieces : goal.decreases-pieces
decreases-pieces g l = l.left
