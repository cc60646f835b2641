use Rattle.std.proofs.Common.{◌+◌, ◌∷◌, List, ◌∙◌, subst, sym, arith}
use Rattle.bus_line.specs.Cutting.{running_slots}
use Rattle.bus_line.specs.declared.cutter.TheConstants.{LAG}
use Rattle.bus_monitor.specs.Channels.{ChannelListerStands}
use Rattle.bus_monitor.specs.declared.channel_lister.ChannelLister.{ChannelLister}
use Rattle.bus_monitor.proofs.ListerLaws.{nothing-stands, slot-stands, end-stands}
use Rattle.bus_wave.specs.Delays.{Marked}
use Rattle.bus_wave.specs.Told.{Told}
use Rattle.bus_wave.proofs.MarkLaws.{nothing-told, IsSlotOf, slot-told, IsEndOf, end-told}
use Rattle.bus_wave.proofs.marking.Marker.hear.Goals as goal

pub returns-in-Nothing-clause-stands : goal.returns-in-Nothing-clause-stands
returns-in-Nothing-clause-stands c past s here =
    subst (λ (l : ChannelLister). ChannelListerStands l (c.args.sample ∷ past)) (sym c.hear_nothing.ensures.keeps)
    (nothing-stands c.args.self.now.lister c.hear.new.self c.args.sample past c.args.now s here
    (c.in-Nothing.ensures.cut past s.cutter) (c.hear.ensures.stands past s.cutter))

pub returns-in-Nothing-clause-marked : goal.returns-in-Nothing-clause-marked
returns-in-Nothing-clause-marked c past s here =
    subst (λ (told : List Told). Marked c.args.line.now c.hear_nothing.new.line (c.args.now + 1) c.args.channel told)
    (nothing-told c.args.self.now.lister c.args.gap c.args.sample past c.args.now s here (c.in-Nothing.ensures.cut past s.cutter))
    c.hear_nothing.ensures.marked

pub returns-in-Slot-clause-stands : goal.returns-in-Slot-clause-stands
returns-in-Slot-clause-stands c past s here =
    subst (λ (l : ChannelLister). ChannelListerStands l (c.args.sample ∷ past)) (sym c.hear_slot.ensures.keeps)
    (slot-stands c.args.self.now.lister c.hear.new.self c.args.sample past c.in-Slot.index c.in-Slot.word s
    (c.in-Slot.ensures.cut past s.cutter) (c.hear.ensures.stands past s.cutter))

pub returns-in-Slot-clause-marked : goal.returns-in-Slot-clause-marked
returns-in-Slot-clause-marked c past s here =
    let e : IsSlotOf c.args.self.now.lister c.args.gap c.args.sample past c.in-Slot.index c.in-Slot.word =
    slot-told c.args.self.now.lister c.args.gap c.args.sample past c.in-Slot.index c.in-Slot.word s (c.in-Slot.ensures.cut past s.cutter) in
    let within = e.within in
    subst (λ (told : List Told). Marked c.args.line.now c.hear_slot.new.line (c.args.now + 1) c.args.channel told) e.told
    (c.hear_slot.ensures.marked e.first e.runs (omega (arith, within, here, c.requires.past.3)))

pub returns-in-Ended-clause-stands : goal.returns-in-Ended-clause-stands
returns-in-Ended-clause-stands c past s here =
    let e : IsEndOf c.args.self.now.lister c.args.gap c.args.sample past c.args.now c.in-Ended.rest =
    end-told c.args.self.now.lister c.args.gap c.args.sample past c.args.now c.in-Ended.slots c.in-Ended.rest s here (c.in-Ended.ensures.cut past s.cutter) in
    subst (λ (l : ChannelLister). ChannelListerStands l (c.args.sample ∷ past))
    (sym (c.hear_end.ensures.keeps e.ended.first (running_slots LAG past) (s.running ∙ e.ended.ran) s.slots))
    (end-stands c.args.self.now.lister c.hear.new.self c.args.sample past c.args.now c.in-Ended.rest s here e.ended (c.hear.ensures.stands past s.cutter))

pub returns-in-Ended-clause-marked : goal.returns-in-Ended-clause-marked
returns-in-Ended-clause-marked c past s here =
    let e : IsEndOf c.args.self.now.lister c.args.gap c.args.sample past c.args.now c.in-Ended.rest =
    end-told c.args.self.now.lister c.args.gap c.args.sample past c.args.now c.in-Ended.slots c.in-Ended.rest s here (c.in-Ended.ensures.cut past s.cutter) in
    let early = e.early in
    subst (λ (told : List Told). Marked c.args.line.now c.hear_end.new.line (c.args.now + 1) c.args.channel told) e.told
    (c.hear_end.ensures.marked e.ended.first (running_slots LAG past) (s.running ∙ e.ended.ran) (omega (arith, early, here, c.requires.past.3)) s.slots)
