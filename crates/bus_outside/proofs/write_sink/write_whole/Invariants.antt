use Rattle.std.proofs.Common.{◌≤◌, length, take}
use Rattle.std.specs.Io.KnownBytes.{Appends}
use Rattle.bus_outside.proofs.write_sink.write_whole.Given as goal

-- the bytes before `at` were added
abbrev pub invariant-tries : goal.invariant-tries
invariant-tries g l = record {
  within : l.at ≤ length l.piece;
  added : Appends (g.W.Write.contents l.fn.writer) (g.W.Write.contents l.writer) (take l.at l.piece);
}
