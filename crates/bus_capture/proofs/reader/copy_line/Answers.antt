use Rattle.std.proofs.Common.{◌+◌, ◌*◌, ◌<◌, length, arith}
use Rattle.bus_capture.proofs.LineLaws.{pairs-more}
use Rattle.bus_capture.proofs.reader.copy_line.Goals as goal

pub loop-place-preserved : goal.loop-place-preserved
loop-place-preserved c =
    let within : 2 * c.loop-place.place + 1 < length c.args.bytes.now = omega (arith, c.requires.line, c.loop-place-test.true) in
    let room : c.loop-place.place < length c.loop-place.ticks = omega (arith, c.requires.room, c.loop-place.auto.ticks, c.loop-place-test.true) in
    rw (c.level.ensures, c.level-in-loop-place.ensures)
    (pairs-more c.args.bytes.now c.loop-place.ticks c.loop-place.place within room c.loop-place.invariant)
