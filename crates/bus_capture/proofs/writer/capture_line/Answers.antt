use Rattle.std.proofs.Common.{◌≡◌, ◌*◌, ◌<◌, length, take, arith, lit<, refl}
use Rattle.std.specs.Prelude.{flat_map}
use Rattle.std.proofs.lemmas.List.{take_all}
use Rattle.bus_capture.proofs.WriterLaws.{tick_bytes, length-taken, line-text}
use Rattle.bus_capture.proofs.writer.capture_line.Goals as goal

pub push-requires : goal.push-requires
push-requires c =
    let long : length c.loop-pair.line.items ≡ 2 * c.loop-pair.pair-index = length-taken c.args.pairs.now c.loop-pair.pair-index c.loop-pair.line.items (omega arith) c.loop-pair.invariant in
    let room : length c.loop-pair.line.items < 129 = omega arith in
    (lit< tt, room)

pub push-requires-in-loop-pair : goal.push-requires-in-loop-pair
push-requires-in-loop-pair c =
    let long : length c.loop-pair.line.items ≡ 2 * c.loop-pair.pair-index = length-taken c.args.pairs.now c.loop-pair.pair-index c.loop-pair.line.items (omega arith) c.loop-pair.invariant in
    let room : length c.push.new.self.items < 129 = omega arith in
    (lit< tt, room)

pub push-requires-2 : goal.push-requires-2
push-requires-2 c =
    let long : length c.loop-pair.line.items ≡ 2 * c.loop-pair.pair-index = length-taken c.args.pairs.now c.loop-pair.pair-index c.loop-pair.line.items (omega arith) c.loop-pair.invariant in
    let room : length c.loop-pair.line.items < 129 = omega arith in
    (lit< tt, room)

pub returns : goal.returns
returns c =
    let all : take c.loop-pair.pair-index c.args.pairs.now ≡ c.args.pairs.now = take_all c.loop-pair.pair-index c.args.pairs.now (omega arith) in
    let bytes : c.loop-pair.line.items ≡ flat_map tick_bytes c.args.pairs.now = rw all at c.loop-pair.invariant in
    rw (c.push-2.ensures.items, bytes, line-text 0 c.args.pairs.now (omega arith) (omega arith) (omega arith)) refl
