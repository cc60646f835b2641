use Rattle.std.proofs.Common.{get_or, ap, ◌∙◌}
use Rattle.bus_formats.specs.Plans.{ItemData, FrameData}
use Rattle.bus_controller.proofs.Places.{at-item, due-is}
use Rattle.bus_controller.proofs.place.due_at.Goals as goal

pub returns : goal.returns
returns c =
    let at = at-item c.args.frames.now c.args.place c.index-frames-place.result c.index-item.result.now c.requires.item c.index-frames-place.is
    (c.index-item.ensures ∙ ap (λ (f : FrameData). get_or f.items c.args.place.item c.index-item.result.now) c.frame.view_is) in
    due-is c.args.frames.now c.args.place c.index-frames-place.result c.index-item.result.now c.item.inside.gap at (ap (λ (i : ItemData). i.gap) c.item.view_is)
