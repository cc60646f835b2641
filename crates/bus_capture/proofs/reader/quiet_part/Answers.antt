use Rattle.std.proofs.Common.{◌≡◌, ◌≤◌, length, sym, take, refl}
use Rattle.std.specs.Prelude.{true}
use Rattle.bus_capture.specs.Quiet.{are_stops}
use Rattle.bus_capture.proofs.QuietLaws.{four-is, step-is, stops-are}
use Rattle.bus_capture.proofs.reader.quiet_part.Goals as goal

pub returns-then-begins_quiet : goal.returns-then-begins_quiet
returns-then-begins_quiet c =
    let begins : (64 ≤ length c.args.piece.now) × (are_stops (take 64 c.args.piece.now) ≡ true) = c.if-begins_quiet.ensures refl in
    stops-are c.args.piece.now 64 32 refl begins.0 begins.1

pub returns-then-are_four_quiet : goal.returns-then-are_four_quiet
returns-then-are_four_quiet c = four-is c.args.piece.now (sym (c.if-are_four_quiet.ensures))

pub returns : goal.returns
returns c = rw c.quiet_step.ensures (step-is c.args.piece.now)
