use Rattle.std.proofs.Common.{◌≤◌, ◌+◌, length, arith}
use Rattle.bus_capture.specs.Quiet.{IsStep}
use Rattle.bus_capture.proofs.QuietLaws.{quiet-none, taken-more}
use Rattle.bus_capture.proofs.reader.quiet_front.Goals as goal

pub bytes-init : goal.bytes-init
bytes-init c = record { within = omega arith; few = omega arith; reads = quiet-none }

pub overflow_add-ticks : goal.overflow_add-ticks
overflow_add-ticks c =
    let step : IsStep c.args.piece.now record { bytes = c.bytes.bytes + c.quiet_part-next.result.bytes; ticks = c.bytes.ticks + c.quiet_part-next.result.ticks } =
    taken-more c.args.piece.now c.bytes.bytes c.bytes.ticks c.quiet_part-next.result c.bytes.invariant.within c.bytes.invariant.few c.bytes.invariant.reads
    c.quiet_part-next.ensures in
    let few : c.bytes.ticks + c.quiet_part-next.result.ticks ≤ c.bytes.bytes + c.quiet_part-next.result.bytes = step.few in
    let within : c.bytes.bytes + c.quiet_part-next.result.bytes ≤ length c.args.piece.now = step.within in
    omega (arith, few, within)

pub bytes-preserved : goal.bytes-preserved
bytes-preserved c =
    taken-more c.args.piece.now c.bytes.bytes c.bytes.ticks c.quiet_part-next.result c.bytes.invariant.within c.bytes.invariant.few c.bytes.invariant.reads
    c.quiet_part-next.ensures

pub returns-after-bytes-clause-within : goal.returns-after-bytes-clause-within
returns-after-bytes-clause-within c = c.bytes.invariant.within

pub returns-after-bytes-clause-reads : goal.returns-after-bytes-clause-reads
returns-after-bytes-clause-reads c = c.bytes.invariant.reads

pub returns-then-next-eq0-clause-reads : goal.returns-then-next-eq0-clause-reads
returns-then-next-eq0-clause-reads c = c.bytes.invariant.reads
