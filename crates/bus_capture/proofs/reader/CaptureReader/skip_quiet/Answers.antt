use Rattle.std.proofs.Common.{◌≡◌, ◌≤◌, ◌+◌, length, arith, take, ℕ, refl}
use Rattle.std.specs.Prelude.{min}
use Rattle.std.proofs.lemmas.List.{length-take}
use Rattle.bus_capture.specs.Readings.{text_limit}
use Rattle.bus_base.specs.Samples.{quiet_pairs}
use Rattle.bus_capture.proofs.QuietLaws.{reader-takes, long-quiet}
use Rattle.bus_capture.proofs.reader.CaptureReader.skip_quiet.Goals as goal

pub returns-clause-stands : goal.returns-clause-stands
returns-clause-stands c bytes stands =
    let run : ℕ = c.quiet_front-run.result.bytes in
    let within : run ≤ length c.args.piece.now = c.quiet_front-run.ensures.within in
    let room : c.args.self.now.at + length c.args.piece.now ≤ text_limit = (c.if-not-stands_between.ensures refl).2 in
    let long : length (take run c.args.piece.now) ≡ min run (length c.args.piece.now) = length-take run c.args.piece.now in
    let exact : length (take run c.args.piece.now) ≡ run = omega (arith, long, within) in
    let short : c.args.self.now.at + length (take run c.args.piece.now) ≤ text_limit = omega (arith, exact, within, room) in
    reader-takes c.args.self.now (take run c.args.piece.now) bytes (quiet_pairs c.quiet_front-run.result.ticks) c.quiet_front-run.result.ticks c.saturating_add-self.result c.saturating_add-self-2.result
    stands (c.if-not-stands_between.ensures refl).0 (c.if-not-stands_between.ensures refl).1 short c.quiet_front-run.ensures.reads
    (long-quiet c.quiet_front-run.result.ticks)
    (rw exact c.saturating_add-self.ensures) c.saturating_add-self-2.ensures
