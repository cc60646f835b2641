use Rattle.std.proofs.Common.{◌∷◌, subst, sym, ◌∙◌}
use Rattle.bus_line.specs.Cutting.{running_slots}
use Rattle.bus_line.specs.declared.cutter.TheConstants.{LAG}
use Rattle.bus_monitor.specs.Channels.{ChannelListerStands}
use Rattle.bus_monitor.specs.declared.channel_lister.ChannelLister.{ChannelLister}
use Rattle.bus_monitor.proofs.ListerLaws.{nothing-closed, nothing-stands, slot-closed, slot-stands, IsEnded, end-is, end-closed, end-stands}
use Rattle.bus_table.proofs.channel_rows.take.Goals as goal

pub returns-in-Nothing-clause-closed : goal.returns-in-Nothing-clause-closed
returns-in-Nothing-clause-closed c past before s here is =
    c.wait.ensures.closed ∙ nothing-closed (record c.args.lister.now { cutter = before }) c.args.sample past c.args.now s here (sym c.in-Nothing.is ∙ is)

pub returns-in-Nothing-clause-stands : goal.returns-in-Nothing-clause-stands
returns-in-Nothing-clause-stands c past before s here is stands =
    subst (λ (l : ChannelLister). ChannelListerStands l (c.args.sample ∷ past)) (sym c.wait.ensures.keeps)
    (nothing-stands (record c.args.lister.now { cutter = before }) c.args.lister.now.cutter c.args.sample past c.args.now s here (sym c.in-Nothing.is ∙ is) stands)

pub returns-in-Slot-clause-closed : goal.returns-in-Slot-clause-closed
returns-in-Slot-clause-closed c past before s here is =
    rw c.keep.ensures.none (slot-closed c.args.sample past c.in-Slot.index c.in-Slot.word (sym c.in-Slot.is ∙ is))

pub returns-in-Slot-clause-stands : goal.returns-in-Slot-clause-stands
returns-in-Slot-clause-stands c past before s here is stands =
    subst (λ (l : ChannelLister). ChannelListerStands l (c.args.sample ∷ past)) (sym c.keep.ensures.keeps)
    (slot-stands (record c.args.lister.now { cutter = before }) c.args.lister.now.cutter c.args.sample past c.in-Slot.index c.in-Slot.word s (sym c.in-Slot.is ∙ is) stands)

pub returns-in-Ended-clause-closed : goal.returns-in-Ended-clause-closed
returns-in-Ended-clause-closed c past before s here is =
    let e : IsEnded LAG c.args.sample past c.in-Ended.rest = end-is c.args.sample past c.in-Ended.slots c.in-Ended.rest (sym c.in-Ended.is ∙ is) in
    c.end_burst.ensures.closed e.first (running_slots LAG past) (s.running ∙ e.ran) s.slots
    ∙ end-closed c.args.lister.now.waiting c.args.sample past c.args.now c.in-Ended.rest s.waiting here e

pub returns-in-Ended-clause-stands : goal.returns-in-Ended-clause-stands
returns-in-Ended-clause-stands c past before s here is stands =
    let e : IsEnded LAG c.args.sample past c.in-Ended.rest = end-is c.args.sample past c.in-Ended.slots c.in-Ended.rest (sym c.in-Ended.is ∙ is) in
    subst (λ (l : ChannelLister). ChannelListerStands l (c.args.sample ∷ past))
    (sym (c.end_burst.ensures.keeps e.first (running_slots LAG past) (s.running ∙ e.ran) s.slots))
    (end-stands (record c.args.lister.now { cutter = before }) c.args.lister.now.cutter c.args.sample past c.args.now c.in-Ended.rest s here e stands)
