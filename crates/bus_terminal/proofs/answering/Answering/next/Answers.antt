use Rattle.std.proofs.Common.{◌∷◌, ◌∙◌, sym, ap, arith, false, None}
use Rattle.bus_line.specs.declared.cutter.TheConstants.{LAG}
use Rattle.bus_model.specs.Terminal.{marked_by}
use Rattle.bus_terminal.specs.declared.state.Sends.{Sends}
use Rattle.bus_terminal.proofs.Accepting.{answering-accepts, next-silent}
use Rattle.bus_terminal.proofs.Alone.{ordered-accepts}
use Rattle.bus_terminal.proofs.Found.{found-as}
use Rattle.bus_terminal.proofs.Listened.{found-free, fits-of, address-of}
use Rattle.bus_terminal.proofs.OwingTicks.{sends-awaits}
use Rattle.bus_terminal.proofs.AnsweringTicks.{answering-waits}
use Rattle.bus_terminal.proofs.Ticks.{some-handled, none-handled}
use Rattle.bus_terminal.proofs.answering.Answering.next.Goals as goal

pub act-requires-clause-address : goal.act-requires-clause-address
act-requires-clause-address c =
    let (terminal, loads, before, past, moment, s, h, here, small) = c.requires in
    address-of LAG terminal loads before.common c.tell-listened.new.self past moment s h.stood.common
    (c.tell-listened.ensures.listened terminal before.common past s moment h.listened)

pub act-requires-clause-end : goal.act-requires-clause-end
act-requires-clause-end c =
    let (terminal, loads, before, past, moment, s, h, here, small) = c.requires in
    let found = found-as c.found.result c.tell-listened.result _ None false c.found.ensures c.tell-listened.ensures.told in
    let some = some-handled s _ c.in-Some.handled _ (found-free LAG terminal past moment s _ (sends-awaits LAG s before.sends h.stood.sends) h.told)
    (sym found ∙ c.in-Some.is) in
    fits-of LAG terminal loads before.common past moment s c.in-Some.handled some.0 c.args.now.0 h.stood.common here small some.1 some.2

pub returns-in-Some : goal.returns-in-Some
returns-in-Some c = λ terminal loads before past moment s h here may.
    let found = found-as c.found.result c.tell-listened.result _ None false c.found.ensures c.tell-listened.ensures.told in
    let some = some-handled s _ c.in-Some.handled _ (found-free LAG terminal past moment s _ (sends-awaits LAG s before.sends h.stood.sends) h.told)
    (sym found ∙ c.in-Some.is) in
    let listened = c.tell-listened.ensures.listened terminal before.common past s moment h.listened in
    next-silent LAG terminal loads _ past moment s _ (ordered-accepts LAG terminal loads before moment past s some.0 h.stood some.1)
    (c.act.ensures terminal loads before.common past moment s some.0 h.stood.common some.1 some.2 listened.plan listened.memory listened.stands
    (sym here) may)

pub returns-in-None : goal.returns-in-None
returns-in-None c = λ terminal loads before past moment s h here may.
    let found = found-as c.found.result c.tell-listened.result _ None false c.found.ensures c.tell-listened.ensures.told in
    let none = none-handled s _ _ (found-free LAG terminal past moment s _ (sends-awaits LAG s before.sends h.stood.sends) h.told)
    (sym found ∙ c.in-None.is) in
    let listened = c.tell-listened.ensures.listened terminal before.common past s moment h.listened in
    let stands = listened.stands s in
    let accepted = answering-accepts LAG terminal loads before c.tell-listened.result moment past s c.args.now.0 c.saturating_sub.result
    c.args.self.sends c.accepts-accepted.result h.stood (rw c.tell-listened.ensures.told h.told) here h.sends
    (omega (arith, c.saturating_sub.ensures, h.sent)) c.accepts-accepted.ensures in
    rw (c.acceptance.ensures, c.send_on.ensures)
    (answering-waits LAG terminal loads before c.tell-listened.new.self c.args.self.sends past moment s c.args.self.sent c.supersede-newer.result
    c.ignore-ignored.result c.accepts-accepted.result _ accepted h.stood none listened h.sends h.sent
    (c.supersede-newer.ensures terminal.address (moment ∷ past) (marked_by LAG terminal moment past s s) stands
    (h.stood.sends.channel ∙ sym (ap (λ (x : Sends). x.channel) h.sends)) (h.stood.sends.end ∙ sym (ap (λ (x : Sends). x.end) h.sends)))
    (c.ignore-ignored.ensures terminal.address (moment ∷ past) (marked_by LAG terminal moment past s s) stands))

pub supersede-newer-requires : goal.supersede-newer-requires
supersede-newer-requires c =
    let (terminal, loads, before, past, moment, s, h, here, small) = c.requires in
    omega (arith, ap (λ (x : Sends). x.end) h.sends, h.stood.sends.end, h.stood.common.ended, here, small)
