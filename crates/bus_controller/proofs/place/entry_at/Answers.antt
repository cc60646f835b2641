use Rattle.std.proofs.Common.{◌<◌, get_or, ap, arith, ◌∙◌}
use Rattle.bus_formats.specs.Plans.{FrameData}
use Rattle.bus_controller.specs.Queue.{items_of}
use Rattle.bus_controller.proofs.Places.{at-item, first-is, item-few, item-ranges}
use Rattle.bus_controller.proofs.place.entry_at.Goals as goal

pub overflow_cast-result : goal.overflow_cast-result
overflow_cast-result c = let few : c.args.place.item < items_of c.args.frames.now = item-few c.args.frames.now c.args.place c.requires.item in omega (arith, few, c.requires.short)

pub overflow_add-result : goal.overflow_add-result
overflow_add-result c = let few : c.args.place.item < items_of c.args.frames.now = item-few c.args.frames.now c.args.place c.requires.item in omega (arith, few, c.requires.short)

pub returns-clause-first : goal.returns-clause-first
returns-clause-first c =
    let at = at-item c.args.frames.now c.args.place c.index-frames-place.result c.index-item.result.now c.requires.item c.index-frames-place.is
    (c.index-item.ensures ∙ ap (λ (f : FrameData). get_or f.items c.args.place.item c.index-item.result.now) c.frame.view_is) in
    rw c.copy_of.ensures (first-is c.args.frames.now c.args.place c.index-frames-place.result c.index-item.result.now at)

pub returns-clause-ranges : goal.returns-clause-ranges
returns-clause-ranges c =
    let at = at-item c.args.frames.now c.args.place c.index-frames-place.result c.index-item.result.now c.requires.item c.index-frames-place.is
    (c.index-item.ensures ∙ ap (λ (f : FrameData). get_or f.items c.args.place.item c.index-item.result.now) c.frame.view_is) in
    rw c.copy_of.ensures
    (item-ranges c.args.frames.now c.args.place.frame c.args.place.item c.index-frames-place.result c.index-item.result.now c.requires.ranges at.0 at.1)
