use Rattle.std.proofs.Common.{◌+◌, ◌∷◌, ◌∙◌, sym, ap, arith, false, None}
use Rattle.bus_line.specs.declared.cutter.TheConstants.{LAG}
use Rattle.bus_model.specs.Terminal.{marked_by}
use Rattle.bus_terminal.specs.declared.state.Sends.{Sends}
use Rattle.bus_terminal.proofs.Accepting.{next-silent, owing-accepts}
use Rattle.bus_terminal.proofs.Found.{found-as}
use Rattle.bus_terminal.proofs.Listened.{found-free, fits-of, address-of}
use Rattle.bus_terminal.proofs.OwingTicks.{sends-awaits, owing-waits}
use Rattle.bus_terminal.proofs.Ticks.{some-handled, none-handled}
use Rattle.bus_terminal.proofs.owing.Owing.next.Goals as goal

pub act-requires-clause-address : goal.act-requires-clause-address
act-requires-clause-address c =
    let (terminal, loads, before, past, moment, s, h, here, small) = c.requires in
    address-of LAG terminal loads before.common c.tell-listened.new.self past moment s h.stood.common
    (c.tell-listened.ensures.listened terminal before.common past s moment h.listened)

pub act-requires-clause-end : goal.act-requires-clause-end
act-requires-clause-end c =
    let (terminal, loads, before, past, moment, s, h, here, small) = c.requires in
    let found = found-as c.found.result c.tell-listened.result _ None false c.found.ensures c.tell-listened.ensures.told in
    let some = some-handled s _ c.in-Some.handled _ (found-free LAG terminal past moment s _ (sends-awaits LAG s before.sends h.stood.sends) h.told)
    (sym found ∙ c.in-Some.is) in
    fits-of LAG terminal loads before.common past moment s c.in-Some.handled some.0 c.args.now.0 h.stood.common here small some.1 some.2

pub returns-in-Some : goal.returns-in-Some
returns-in-Some c = λ terminal loads before past moment s h here shown may.
    let found = found-as c.found.result c.tell-listened.result _ None false c.found.ensures c.tell-listened.ensures.told in
    let some = some-handled s _ c.in-Some.handled _ (found-free LAG terminal past moment s _ (sends-awaits LAG s before.sends h.stood.sends) h.told)
    (sym found ∙ c.in-Some.is) in
    let listened = c.tell-listened.ensures.listened terminal before.common past s moment h.listened in
    next-silent LAG terminal loads _ past moment s _ (owing-accepts LAG terminal loads before moment past s h.stood)
    (c.act.ensures terminal loads before.common past moment s some.0 h.stood.common some.1 some.2 listened.plan listened.memory listened.stands
    (sym here) may)

pub returns-in-None : goal.returns-in-None
returns-in-None c = λ terminal loads before past moment s h here shown may.
    let found = found-as c.found.result c.tell-listened.result _ None false c.found.ensures c.tell-listened.ensures.told in
    let none = none-handled s _ _ (found-free LAG terminal past moment s _ (sends-awaits LAG s before.sends h.stood.sends) h.told)
    (sym found ∙ c.in-None.is) in
    let listened = c.tell-listened.ensures.listened terminal before.common past s moment h.listened in
    next-silent LAG terminal loads _ past moment s _ (owing-accepts LAG terminal loads before moment past s h.stood)
    (rw c.owe_on.ensures (owing-waits LAG terminal loads before c.tell-listened.new.self c.args.self.sends past moment s (c.args.now.0 + 1)
    c.is_heard-dropped.result c.supersede-newer.result h.stood none listened h.sends (omega (arith, here)) (rw shown c.is_heard-dropped.ensures)
    (c.supersede-newer.ensures terminal.address (moment ∷ past) (marked_by LAG terminal moment past s s) (listened.stands s)
    (h.stood.sends.channel ∙ sym (ap (λ (x : Sends). x.channel) h.sends)) (h.stood.sends.end ∙ sym (ap (λ (x : Sends). x.end) h.sends)))))

pub supersede-newer-requires : goal.supersede-newer-requires
supersede-newer-requires c =
    let (terminal, loads, before, past, moment, s, h, here, small) = c.requires in
    omega (arith, ap (λ (x : Sends). x.end) h.sends, h.stood.sends.end, h.stood.common.ended, here, small)

pub owe_on-requires : goal.owe_on-requires
owe_on-requires c =
    let (terminal, loads, before, past, moment, s, h, here, small) = c.requires in
    omega (arith, ap (λ (x : Sends). x.end) h.sends, h.stood.sends.end, h.stood.common.ended, here, small)
