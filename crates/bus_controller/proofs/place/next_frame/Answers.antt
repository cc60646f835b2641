use Rattle.std.proofs.Common.{◌-◌, arith, refl}
use Rattle.bus_controller.proofs.Places.{next-same, next-round, frame-is, over-of}
use Rattle.bus_controller.proofs.place.next_frame.Goals as goal

pub returns-then-place-gt0-clause-same : goal.returns-then-place-gt0-clause-same
returns-then-place-gt0-clause-same c =
    let is = frame-is c.args.frames.now c.args.place.frame c.index-frames-place.result c.requires.within c.index-frames-place.is in
    next-round c.args.frames.now c.args.place _ c.index-frames-place.result (c.args.place.rounds - 1) is
    (over-of c.args.frames.now c.args.place c.index-frames-place.result is c.requires.over)
    (omega arith) (omega arith) (rw c.from.ensures (rw (← c.frame.view_is) refl))

pub returns-clause-same : goal.returns-clause-same
returns-clause-same c =
    let is = frame-is c.args.frames.now c.args.place.frame c.index-frames-place.result c.requires.within c.index-frames-place.is in
    next-same c.args.frames.now c.args.place _ c.index-frames-place.result is
    (over-of c.args.frames.now c.args.place c.index-frames-place.result is c.requires.over)
    (rw c.from.ensures (rw (← c.frame.view_is) refl))
