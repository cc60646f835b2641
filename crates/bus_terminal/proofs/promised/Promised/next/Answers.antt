use Rattle.std.proofs.Common.{◌≡◌, ◌+◌, ◌==◌, ◌&&◌, not, ◌∷◌, ◌∙◌, length, sym, ap, arith, Some}
use Rattle.bus_line.specs.declared.cutter.TheConstants.{LAG}
use Rattle.bus_formats.specs.Times.{relay_wait}
use Rattle.bus_model.specs.Terminal.{marked_by}
use Rattle.bus_terminal.specs.declared.handling.Waiting.{Waiting}
use Rattle.bus_terminal.proofs.Accepting.{next-silent, promised-accepts}
use Rattle.bus_terminal.proofs.Found.{found-as}
use Rattle.bus_terminal.proofs.Listened.{fits-of, address-of}
use Rattle.bus_terminal.proofs.PromisedTicks.{promised-found, promised-waits, last-none}
use Rattle.bus_terminal.proofs.Ticks.{some-handled, none-handled}
use Rattle.bus_terminal.proofs.promised.Promised.next.Goals as goal

pub runs_out-out-requires : goal.runs_out-out-requires
runs_out-out-requires c =
    let (terminal, loads, before, past, moment, s, h, here, small) = c.requires in
    omega (arith, ap (λ (w : Waiting). w.end) h.waiting, h.stood.waiting.end, h.stood.common.ended, here, small)

pub found-requires : goal.found-requires
found-requires c =
    let (terminal, loads, before, past, moment, s, h, here, small) = c.requires in
    rw c.again.ensures (omega (arith, ap (λ (w : Waiting). w.end) h.waiting, h.stood.waiting.end, h.stood.common.ended, here, small))

pub supersede-newer-requires : goal.supersede-newer-requires
supersede-newer-requires c =
    let (terminal, loads, before, past, moment, s, h, here, small) = c.requires in
    omega (arith, ap (λ (w : Waiting). w.end) h.waiting, h.stood.waiting.end, h.stood.common.ended, here, small)

pub act-requires-clause-address : goal.act-requires-clause-address
act-requires-clause-address c =
    let (terminal, loads, before, past, moment, s, h, here, small) = c.requires in
    address-of LAG terminal loads before.common c.tell-listened.new.self past moment s h.stood.common
    (c.tell-listened.ensures.listened terminal before.common past s moment h.listened)

pub act-requires-clause-end : goal.act-requires-clause-end
act-requires-clause-end c =
    let (terminal, loads, before, past, moment, s, h, here, small) = c.requires in
    let found = found-as c.found.result c.tell-listened.result _ (Some c.args.self.waiting) c.runs_out-out.result
    (rw (← c.again.ensures) c.found.ensures) c.tell-listened.ensures.told in
    let some = some-handled s _ c.in-Some.handled _ (promised-found LAG terminal loads before c.args.self.waiting c.args.self.heard past moment s _
    c.runs_out-out.result h.stood h.told h.waiting h.since (rw here c.runs_out-out.ensures)) (sym found ∙ c.in-Some.is) in
    fits-of LAG terminal loads before.common past moment s c.in-Some.handled some.0 c.args.now.0 h.stood.common here small some.1 some.2

pub returns-in-Some : goal.returns-in-Some
returns-in-Some c = λ terminal loads before past moment s h here may.
    let found = found-as c.found.result c.tell-listened.result _ (Some c.args.self.waiting) c.runs_out-out.result
    (rw (← c.again.ensures) c.found.ensures) c.tell-listened.ensures.told in
    let some = some-handled s _ c.in-Some.handled _ (promised-found LAG terminal loads before c.args.self.waiting c.args.self.heard past moment s _
    c.runs_out-out.result h.stood h.told h.waiting h.since (rw here c.runs_out-out.ensures)) (sym found ∙ c.in-Some.is) in
    let listened = c.tell-listened.ensures.listened terminal before.common past s moment h.listened in
    next-silent LAG terminal loads _ past moment s _ (promised-accepts LAG terminal loads before moment past s h.stood)
    (c.act.ensures terminal loads before.common past moment s some.0 h.stood.common some.1 some.2 listened.plan listened.memory listened.stands
    (sym here) may)

pub returns-in-None : goal.returns-in-None
returns-in-None c = λ terminal loads before past moment s h here may.
    let found = found-as c.found.result c.tell-listened.result _ (Some c.args.self.waiting) c.runs_out-out.result
    (rw (← c.again.ensures) c.found.ensures) c.tell-listened.ensures.told in
    let out : c.runs_out-out.result ≡ ((length past == (c.args.self.waiting.end + relay_wait)) && not c.args.self.heard) =
    rw here c.runs_out-out.ensures in
    let none = none-handled s _ _ (promised-found LAG terminal loads before c.args.self.waiting c.args.self.heard past moment s _
    c.runs_out-out.result h.stood h.told h.waiting h.since out) (sym found ∙ c.in-None.is) in
    let listened = c.tell-listened.ensures.listened terminal before.common past s moment h.listened in
    next-silent LAG terminal loads _ past moment s _ (promised-accepts LAG terminal loads before moment past s h.stood)
    (rw c.wait_on.ensures (promised-waits LAG terminal loads before c.tell-listened.new.self c.args.self.waiting c.args.self.heard past moment s
    c.runs_out-out.result c.supersede-newer.result h.stood listened h.waiting h.since out
    (last-none _ _ _ c.runs_out-out.result (sym found ∙ c.in-None.is)) none
    (c.supersede-newer.ensures terminal.address (moment ∷ past) (marked_by LAG terminal moment past s s) (listened.stands s)
    (h.stood.waiting.channel ∙ sym (ap (λ (w : Waiting). w.channel) h.waiting)) (h.stood.waiting.end ∙ sym (ap (λ (w : Waiting). w.end) h.waiting)))))
