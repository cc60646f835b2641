use Rattle.std.proofs.Common.{◌≡◌, ◌≤◌, ◌+◌, length, reverse, arith, take, ℕ, List, refl}
use Rattle.std.specs.Prelude.{min}
use Rattle.std.proofs.lemmas.List.{length-take}
use Rattle.bus_base.specs.declared.samples.Pair.{Pair}
use Rattle.bus_capture.specs.Readings.{text_limit}
use Rattle.bus_capture.proofs.QuietLaws.{reader-takes}
use Rattle.bus_capture.proofs.FrontLaws.{long-front}
use Rattle.bus_capture.proofs.reader.CaptureReader.read_ticks.Goals as goal

pub returns-clause-stands : goal.returns-clause-stands
returns-clause-stands c bytes stands =
    let run : ℕ = c.front_ticks-run.result.bytes in
    let ticks : List Pair = reverse (take c.front_ticks-run.result.ticks c.front_ticks-run.new.ticks) in
    let within : run ≤ length c.args.piece.now = c.front_ticks-run.ensures.within in
    let room : c.args.self.now.at + length c.args.piece.now ≤ text_limit = (c.if-not-stands_between.ensures refl).2 in
    let long : length (take run c.args.piece.now) ≡ min run (length c.args.piece.now) = length-take run c.args.piece.now in
    let exact : length (take run c.args.piece.now) ≡ run = omega (arith, long, within) in
    let short : c.args.self.now.at + length (take run c.args.piece.now) ≤ text_limit = omega (arith, exact, within, room) in
    reader-takes c.args.self.now (take run c.args.piece.now) bytes ticks c.front_ticks-run.result.ticks c.saturating_add-self.result c.saturating_add-self-2.result
    stands (c.if-not-stands_between.ensures refl).0 (c.if-not-stands_between.ensures refl).1 short c.front_ticks-run.ensures.reads
    (long-front c.front_ticks-run.new.ticks c.front_ticks-run.result.ticks c.front_ticks-run.ensures.room)
    (rw exact c.saturating_add-self.ensures) c.saturating_add-self-2.ensures
