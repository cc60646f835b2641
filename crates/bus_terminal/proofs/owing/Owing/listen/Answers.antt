use Rattle.std.proofs.Common.{◌+◌, ◌∷◌, refl, ap, arith, nat_le}
use Rattle.bus_line.specs.declared.cutter.TheConstants.{LAG}
use Rattle.bus_model.specs.Hearing.{Moment}
use Rattle.bus_model.specs.Terminal.{marked_by}
use Rattle.bus_terminal.proofs.Staying.{owing-step}
use Rattle.bus_terminal.proofs.OwingTicks.{owing-listens}
use Rattle.bus_terminal.proofs.owing.Owing.listen.Goals as goal

pub listen-both-requires : goal.listen-both-requires
listen-both-requires c =
    let (terminal, loads, past, s, st, is, here, small) = c.requires in
    (terminal, loads, past, s, st.common, is, here, small)

pub supersede-newer-requires : goal.supersede-newer-requires
supersede-newer-requires c =
    let (terminal, loads, past, s, st, is, here, small) = c.requires in
    omega (arith, st.sends.end, st.common.ended, here, small)

pub due-requires : goal.due-requires
due-requires c =
    let (terminal, loads, past, s, st, is, here, small) = c.requires in
    omega (arith, st.sends.end, st.common.ended, here, small)

pub returns : goal.returns
returns c = λ terminal loads past s may st is here.
    let moment : Moment = record { shown = c.args.heard; has_items = may } in
    let listened = c.listen-both.ensures.listened terminal loads past s moment st.common is here refl
    (owing-listens LAG terminal loads c.args.self.now past s st) in
    let told = c.listen-both.ensures.tells terminal loads past s moment st.common is here refl in
    rw (c.of.ensures, c.either-2.ensures, c.either-left.ensures, c.either.ensures) (owing-step LAG terminal loads c.args.self.now
    (record { common = c.listen-both.new.self; sends = c.args.self.now.sends }) c.listen-both.result past moment s (c.args.now.0 + 1)
    c.is_found-handled.result c.supersede-newer.result c.is_heard-dropped.result (nat_le c.due.result (c.args.now.0 + 1))
    (record { stood = st; listened = listened; told = told; sends = refl }) (omega (arith, here)) c.is_found-handled.ensures
    (c.supersede-newer.ensures terminal.address (moment ∷ past) (marked_by LAG terminal moment past s s) (listened.stands s) st.sends.channel st.sends.end)
    c.is_heard-dropped.ensures (ap (λ d. nat_le d (c.args.now.0 + 1)) c.due.ensures))
