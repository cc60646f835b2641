use Rattle.std.proofs.Common.{◌∷◌, ◌++◌, List, ap, ◌∙◌, subst, sym}
use Rattle.std.proofs.lemmas.List.{append-nil}
use Rattle.bus_line.specs.Cutting.{running_slots}
use Rattle.bus_line.specs.declared.cutter.TheConstants.{LAG}
use Rattle.bus_monitor.specs.Channels.{ChannelListerStands}
use Rattle.bus_monitor.specs.Messages.{Closed}
use Rattle.bus_monitor.specs.Steps.{closed_lines}
use Rattle.bus_monitor.specs.declared.channel_lister.ChannelLister.{ChannelLister}
use Rattle.bus_monitor.proofs.ListerLaws.{nothing-closed, nothing-stands, slot-closed, slot-stands, IsEnded, end-is, end-closed, end-stands}
use Rattle.bus_monitor.proofs.channel_lister.ChannelLister.list.Goals as goal

pub returns-in-Nothing-clause-text : goal.returns-in-Nothing-clause-text
returns-in-Nothing-clause-text c past s here =
    c.wait.ensures.text ∙ ap (λ (closed : List Closed). c.args.text.now ++ closed_lines c.args.channel closed)
    (nothing-closed c.args.self.now c.args.sample past c.args.now s here (c.in-Nothing.ensures.cut past s.cutter))

pub returns-in-Nothing-clause-stands : goal.returns-in-Nothing-clause-stands
returns-in-Nothing-clause-stands c past s here =
    subst (λ (l : ChannelLister). ChannelListerStands l (c.args.sample ∷ past)) (sym c.wait.ensures.keeps)
    (nothing-stands c.args.self.now c.hear.new.self c.args.sample past c.args.now s here
    (c.in-Nothing.ensures.cut past s.cutter) (c.hear.ensures.stands past s.cutter))

pub returns-in-Slot-clause-text : goal.returns-in-Slot-clause-text
returns-in-Slot-clause-text c past s here =
    sym (append-nil c.args.text.now) ∙ ap (λ (closed : List Closed). c.args.text.now ++ closed_lines c.args.channel closed)
    (slot-closed c.args.sample past c.in-Slot.index c.in-Slot.word (c.in-Slot.ensures.cut past s.cutter))

pub returns-in-Slot-clause-stands : goal.returns-in-Slot-clause-stands
returns-in-Slot-clause-stands c past s here =
    subst (λ (l : ChannelLister). ChannelListerStands l (c.args.sample ∷ past)) (sym c.keep.ensures)
    (slot-stands c.args.self.now c.hear.new.self c.args.sample past c.in-Slot.index c.in-Slot.word s
    (c.in-Slot.ensures.cut past s.cutter) (c.hear.ensures.stands past s.cutter))

pub returns-in-Ended-clause-text : goal.returns-in-Ended-clause-text
returns-in-Ended-clause-text c past s here =
    let e : IsEnded LAG c.args.sample past c.in-Ended.rest =
    end-is c.args.sample past c.in-Ended.slots c.in-Ended.rest (c.in-Ended.ensures.cut past s.cutter) in
    c.close_burst.ensures.text e.first (running_slots LAG past) (s.running ∙ e.ran) s.slots
    ∙ ap (λ (closed : List Closed). c.args.text.now ++ closed_lines c.args.channel closed)
    (end-closed c.args.self.now.waiting c.args.sample past c.args.now c.in-Ended.rest s.waiting here e)

pub returns-in-Ended-clause-stands : goal.returns-in-Ended-clause-stands
returns-in-Ended-clause-stands c past s here =
    let e : IsEnded LAG c.args.sample past c.in-Ended.rest =
    end-is c.args.sample past c.in-Ended.slots c.in-Ended.rest (c.in-Ended.ensures.cut past s.cutter) in
    subst (λ (l : ChannelLister). ChannelListerStands l (c.args.sample ∷ past))
    (sym (c.close_burst.ensures.keeps e.first (running_slots LAG past) (s.running ∙ e.ran) s.slots))
    (end-stands c.args.self.now c.hear.new.self c.args.sample past c.args.now c.in-Ended.rest s here e (c.hear.ensures.stands past s.cutter))
