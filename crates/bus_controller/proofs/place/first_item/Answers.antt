use Rattle.std.proofs.Common.{◌≡◌, length, arith, ap}
use Rattle.bus_controller.specs.Queue.{entries_of}
use Rattle.bus_controller.proofs.Places.{some-frame, has-item}
use Rattle.bus_controller.proofs.place.first_item.Goals as goal

pub items_in-requires : goal.items_in-requires
items_in-requires c =
    let some : length (entries_of c.args.frames.now c.frames.at) ≡ length (entries_of c.args.frames.now c.args.place) = ap length c.frames.invariant.1 in
    some-frame c.args.frames.now c.frames.at c.frames.invariant.0 (omega (arith, some, c.requires.some))

pub next_frame-at-requires-clause-within : goal.next_frame-at-requires-clause-within
next_frame-at-requires-clause-within c =
    let some : length (entries_of c.args.frames.now c.frames.at) ≡ length (entries_of c.args.frames.now c.args.place) = ap length c.frames.invariant.1 in
    some-frame c.args.frames.now c.frames.at c.frames.invariant.0 (omega (arith, some, c.requires.some))

pub returns-clause-item : goal.returns-clause-item
returns-clause-item c =
    let some : length (entries_of c.args.frames.now c.frames.at) ≡ length (entries_of c.args.frames.now c.args.place) = ap length c.frames.invariant.1 in
    has-item c.args.frames.now c.frames.at c.items_in.result
    (some-frame c.args.frames.now c.frames.at c.frames.invariant.0 (omega (arith, some, c.requires.some)))
    c.items_in.ensures (omega arith)
