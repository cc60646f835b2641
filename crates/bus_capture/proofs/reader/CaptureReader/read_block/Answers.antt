use Rattle.std.proofs.Common.{◌≡◌, ◌≤◌, ◌+◌, length, reverse, arith, take, ℕ, refl}
use Rattle.std.specs.Prelude.{min}
use Rattle.std.proofs.lemmas.List.{length-take}
use Rattle.bus_capture.specs.Blocks.{ticks_of}
use Rattle.bus_capture.specs.Readings.{ticks_in, text_limit}
use Rattle.bus_capture.proofs.QuietLaws.{reader-takes}
use Rattle.bus_capture.proofs.Fronts.{long-block, none-are}
use Rattle.bus_capture.proofs.reader.CaptureReader.read_block.Goals as goal

pub returns-then-not-stands_between-clause-ticks : goal.returns-then-not-stands_between-clause-ticks
returns-then-not-stands_between-clause-ticks c bytes stands = rw c.none.ensures (none-are (ticks_in bytes))

pub returns-clause-stands : goal.returns-clause-stands
returns-clause-stands c bytes stands =
    let run : ℕ = c.front_block-run.result.bytes in
    let within : run ≤ length c.args.piece.now = c.front_block-run.ensures.within in
    let room : c.args.self.now.at + length c.args.piece.now ≤ text_limit = (c.if-not-stands_between.ensures refl).2 in
    let long : length (take run c.args.piece.now) ≡ min run (length c.args.piece.now) = length-take run c.args.piece.now in
    let exact : length (take run c.args.piece.now) ≡ run = omega (arith, long, within) in
    let short : c.args.self.now.at + length (take run c.args.piece.now) ≤ text_limit = omega (arith, exact, within, room) in
    reader-takes c.args.self.now (take run c.args.piece.now) bytes (reverse (ticks_of c.front_block-run.result.block)) c.front_block-run.result.block.ticks
    c.saturating_add-self.result c.saturating_add-self-2.result
    stands (c.if-not-stands_between.ensures refl).0 (c.if-not-stands_between.ensures refl).1 short c.front_block-run.ensures.reads
    (long-block c.front_block-run.result.block)
    (rw exact c.saturating_add-self.ensures) (rw c.from.ensures at c.saturating_add-self-2.ensures)
