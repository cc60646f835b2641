use Rattle.std.proofs.Common.{◌≡◌, ◌≤◌, length, take, refl, arith}
use Rattle.std.specs.Prelude.{min}
use Rattle.std.proofs.lemmas.List.{length-take}
use Rattle.bus_capture.proofs.LineLaws.{line-is}
use Rattle.bus_capture.proofs.reader.front_ticks.Goals as goal

pub slice_bounds-copy_line-end : goal.slice_bounds-copy_line-end
slice_bounds-copy_line-end c =
    let within : 128 ≤ length c.args.piece.now = (c.if-begins_line.ensures refl).0 in
    let long : length (take 128 c.args.piece.now) ≡ min 128 (length c.args.piece.now) = length-take 128 c.args.piece.now in
    omega (arith, within, long)

pub copy_line-requires-clause-line : goal.copy_line-requires-clause-line
copy_line-requires-clause-line c =
    let within : 128 ≤ length c.args.piece.now = (c.if-begins_line.ensures refl).0 in
    let long : length (take 128 c.args.piece.now) ≡ min 128 (length c.args.piece.now) = length-take 128 c.args.piece.now in
    omega (arith, within, long)

pub returns-then-begins_line : goal.returns-then-begins_line
returns-then-begins_line c =
    let begins = c.if-begins_line.ensures refl in
    let room : 64 ≤ length c.copy_line.new.ticks = omega (arith, c.if-ticks-ge64.true, c.copy_line.auto.ticks) in
    line-is c.args.piece.now c.copy_line.new.ticks 128 64 refl begins.0 room begins.1 c.copy_line.ensures
