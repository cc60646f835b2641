use Rattle.std.proofs.Common.{refl}
use Rattle.bus_model.specs.Hearing.{Moment}
use Rattle.bus_terminal.proofs.terminal.Terminal.step.Goals as goal

pub settle-requires : goal.settle-requires
settle-requires c =
    let (terminal, loads, past, s, st, is, here, small) = c.requires in
    let moment : Moment = record { shown = c.args.heard; has_items = c.args.may_accept } in
    (terminal, loads, past, moment, s, c.in-Changes.ensures terminal loads past s c.args.may_accept st is here, here, small)

pub returns-in-Changes-clause-next : goal.returns-in-Changes-clause-next
returns-in-Changes-clause-next c = λ terminal loads past s st is here.
    let moment : Moment = record { shown = c.args.heard; has_items = c.args.may_accept } in
    c.settle.ensures.next terminal loads past moment s (c.in-Changes.ensures terminal loads past s c.args.may_accept st is here) here refl refl
