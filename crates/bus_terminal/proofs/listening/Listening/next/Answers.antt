use Rattle.std.proofs.Common.{◌∙◌, sym, false, None}
use Rattle.bus_line.specs.declared.cutter.TheConstants.{LAG}
use Rattle.bus_terminal.proofs.Accepting.{next-silent, listening-accepts}
use Rattle.bus_terminal.proofs.Found.{found-as}
use Rattle.bus_terminal.proofs.Listened.{rests-heard, rests-none, fits-of, address-of}
use Rattle.bus_terminal.proofs.Ticks.{some-handled, none-handled}
use Rattle.bus_terminal.proofs.listening.Listening.next.Goals as goal

pub act-requires-clause-address : goal.act-requires-clause-address
act-requires-clause-address c =
    let (terminal, loads, before, past, moment, s, h, here, small) = c.requires in
    address-of LAG terminal loads before.common c.tell-listened.new.self past moment s h.stood.common
    (c.tell-listened.ensures.listened terminal before.common past s moment h.listened)

pub act-requires-clause-end : goal.act-requires-clause-end
act-requires-clause-end c =
    let (terminal, loads, before, past, moment, s, h, here, small) = c.requires in
    let found = found-as c.found.result c.tell-listened.result _ None false c.found.ensures c.tell-listened.ensures.told in
    let some = some-handled s _ c.in-Some.handled _ (rests-heard LAG terminal loads before past moment s _ h.stood h.told) (sym found ∙ c.in-Some.is) in
    fits-of LAG terminal loads before.common past moment s c.in-Some.handled some.0 c.args.now.0 h.stood.common here small some.1 some.2

pub returns-in-Some : goal.returns-in-Some
returns-in-Some c = λ terminal loads before past moment s h here may.
    let found = found-as c.found.result c.tell-listened.result _ None false c.found.ensures c.tell-listened.ensures.told in
    let some = some-handled s _ c.in-Some.handled _ (rests-heard LAG terminal loads before past moment s _ h.stood h.told) (sym found ∙ c.in-Some.is) in
    let listened = c.tell-listened.ensures.listened terminal before.common past s moment h.listened in
    next-silent LAG terminal loads _ past moment s _ (listening-accepts LAG terminal loads before moment past s h.stood)
    (c.act.ensures terminal loads before.common past moment s some.0 h.stood.common some.1 some.2 listened.plan listened.memory listened.stands
    (sym here) may)

pub returns-in-None : goal.returns-in-None
returns-in-None c = λ terminal loads before past moment s h here may.
    let found = found-as c.found.result c.tell-listened.result _ None false c.found.ensures c.tell-listened.ensures.told in
    let none = none-handled s _ _ (rests-heard LAG terminal loads before past moment s _ h.stood h.told) (sym found ∙ c.in-None.is) in
    let listened = c.tell-listened.ensures.listened terminal before.common past s moment h.listened in
    next-silent LAG terminal loads _ past moment s _ (listening-accepts LAG terminal loads before moment past s h.stood)
    (rests-none LAG terminal loads before c.tell-listened.new.self past moment s h.stood none listened.plan listened.memory (listened.stands s))
