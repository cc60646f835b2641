use Rattle.std.proofs.Common.{refl}
use Rattle.bus_model.specs.Hearing.{Moment}
use Rattle.bus_terminal.proofs.owing.Owing.hear.Goals as goal

pub next-requires : goal.next-requires
next-requires c =
    let (terminal, loads, past, s, st, is, here, small) = c.requires in
    let moment : Moment = record { shown = c.args.heard; has_items = c.args.may_accept } in
    let (before, listened) = c.in-Changes.ensures terminal loads past s c.args.may_accept st is here in
    (terminal, loads, before, past, moment, s, listened, here, small)

pub returns-in-Changes : goal.returns-in-Changes
returns-in-Changes c = λ terminal loads past s st is here.
    let moment : Moment = record { shown = c.args.heard; has_items = c.args.may_accept } in
    let (before, listened) = c.in-Changes.ensures terminal loads past s c.args.may_accept st is here in
    c.next.ensures terminal loads before past moment s listened here refl refl
