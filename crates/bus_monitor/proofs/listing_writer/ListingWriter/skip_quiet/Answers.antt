use Rattle.std.proofs.Common.{◌≡◌, ◌≤◌, ◌+◌, ℕ, List, ◌++◌, length, reverse, take, ap, ◌∙◌, arith}
use Rattle.bus_base.specs.Samples.{quiet_pairs}
use Rattle.bus_capture.specs.Readings.{ticks_in, text_limit}
use Rattle.bus_monitor.proofs.QuietLaws.{long-more}
use Rattle.bus_monitor.proofs.WriterLaws.{few-ticks}
use Rattle.bus_monitor.proofs.listing_writer.ListingWriter.skip_quiet.Goals as goal

pub skip-requires-clause-past : goal.skip-requires-clause-past
skip-requires-clause-past g c =
    let bytes : List ℕ = c.requires.0 in
    let more : List ℕ = reverse (take c.skip_quiet-quiet.result.bytes c.args.piece.now) ++ bytes in
    let ticks : ticks_in more ≡ quiet_pairs c.skip_quiet-quiet.result.ticks ++ ticks_in bytes = c.skip_quiet-quiet.ensures.ticks bytes c.requires.3.holds.reader in
    let long : length (ticks_in more) ≡ c.skip_quiet-quiet.result.ticks + length (ticks_in bytes) =
    ap length ticks ∙ long-more c.skip_quiet-quiet.result.ticks (ticks_in bytes) in
    let few : length (ticks_in more) ≤ text_limit = few-ticks more in
    (ticks_in bytes, c.requires.3.holds.lister, omega (arith, long, few))
