use Rattle.std.proofs.Common.{◌∷◌, ◌∙◌, subst, sym}
use Rattle.bus_line.specs.Cutting.{running_slots}
use Rattle.bus_line.specs.declared.cutter.TheConstants.{LAG}
use Rattle.bus_monitor.specs.Channels.{ChannelListerStands}
use Rattle.bus_monitor.specs.Told.{TellsSo}
use Rattle.bus_monitor.specs.declared.channel_lister.ChannelLister.{ChannelLister}
use Rattle.bus_monitor.specs.declared.told.Told.{Told}
use Rattle.bus_monitor.specs.declared.told.Told.TheVariants as told
use Rattle.bus_monitor.specs.declared.told.BurstEnd.{BurstEnd}
use Rattle.bus_monitor.proofs.ListerLaws.{nothing-stands, slot-stands, IsEnded, end-is, end-stands}
use Rattle.bus_monitor.proofs.ToldLaws.{pause-tells, slot-tells, end-tells}
use Rattle.bus_monitor.proofs.channel_lister.ChannelLister.hear.Goals as goal

pub returns-in-Nothing-clause-told : goal.returns-in-Nothing-clause-told
returns-in-Nothing-clause-told c past s here =
    subst (λ (t : Told). TellsSo LAG c.args.sample past t) (sym c.pause.ensures.told)
    (pause-tells c.args.sample past c.args.self.now.running c.args.self.now.waiting s.running s.waiting (c.in-Nothing.ensures.cut past s.cutter))

pub returns-in-Nothing-clause-stands : goal.returns-in-Nothing-clause-stands
returns-in-Nothing-clause-stands c past s here =
    subst (λ (l : ChannelLister). ChannelListerStands l (c.args.sample ∷ past)) (sym c.pause.ensures.keeps)
    (nothing-stands c.args.self.now c.hear.new.self c.args.sample past c.args.now s here
    (c.in-Nothing.ensures.cut past s.cutter) (c.hear.ensures.stands past s.cutter))

pub returns-in-Slot-clause-told : goal.returns-in-Slot-clause-told
returns-in-Slot-clause-told c past s here =
    subst (λ valid. TellsSo LAG c.args.sample past (told.Slot valid)) (sym c.is_some.ensures)
    (slot-tells c.args.sample past c.in-Slot.index c.in-Slot.word (c.in-Slot.ensures.cut past s.cutter))

pub returns-in-Slot-clause-stands : goal.returns-in-Slot-clause-stands
returns-in-Slot-clause-stands c past s here =
    subst (λ (l : ChannelLister). ChannelListerStands l (c.args.sample ∷ past)) (sym c.keep.ensures)
    (slot-stands c.args.self.now c.hear.new.self c.args.sample past c.in-Slot.index c.in-Slot.word s
    (c.in-Slot.ensures.cut past s.cutter) (c.hear.ensures.stands past s.cutter))

pub returns-in-Ended-clause-told : goal.returns-in-Ended-clause-told
returns-in-Ended-clause-told c past s here =
    let e : IsEnded LAG c.args.sample past c.in-Ended.rest =
    end-is c.args.sample past c.in-Ended.slots c.in-Ended.rest (c.in-Ended.ensures.cut past s.cutter) in
    subst (λ (b : BurstEnd). TellsSo LAG c.args.sample past (told.Ended b))
    (sym (c.tell_end.ensures.told e.first (running_slots LAG past) (s.running ∙ e.ran) s.slots))
    (end-tells c.args.sample past c.in-Ended.slots c.in-Ended.rest c.args.now c.args.self.now.waiting s.waiting here (c.in-Ended.ensures.cut past s.cutter) e)

pub returns-in-Ended-clause-stands : goal.returns-in-Ended-clause-stands
returns-in-Ended-clause-stands c past s here =
    let e : IsEnded LAG c.args.sample past c.in-Ended.rest =
    end-is c.args.sample past c.in-Ended.slots c.in-Ended.rest (c.in-Ended.ensures.cut past s.cutter) in
    subst (λ (l : ChannelLister). ChannelListerStands l (c.args.sample ∷ past))
    (sym (c.tell_end.ensures.keeps e.first (running_slots LAG past) (s.running ∙ e.ran) s.slots))
    (end-stands c.args.self.now c.hear.new.self c.args.sample past c.args.now c.in-Ended.rest s here e (c.hear.ensures.stands past s.cutter))
