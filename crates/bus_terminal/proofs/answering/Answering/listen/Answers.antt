use Rattle.std.proofs.Common.{◌+◌, ◌∷◌, sym, subst, refl, arith, Option}
use Rattle.bus_base.specs.declared.samples.Channel.{Channel}
use Rattle.bus_line.specs.declared.cutter.TheConstants.{LAG}
use Rattle.bus_model.specs.Hearing.{Moment}
use Rattle.bus_model.specs.Terminal.{marked_by}
use Rattle.bus_terminal.specs.Holding.{Listens}
use Rattle.bus_terminal.proofs.Staying.{answering-step}
use Rattle.bus_terminal.proofs.AnsweringTicks.{answering-listens}
use Rattle.bus_terminal.proofs.answering.Answering.listen.Goals as goal

pub listen-both-requires : goal.listen-both-requires
listen-both-requires c =
    let (terminal, loads, past, s, st, is, here, small) = c.requires in
    (terminal, loads, past, s, st.common, is, here, small)

pub supersede-newer-requires : goal.supersede-newer-requires
supersede-newer-requires c =
    let (terminal, loads, past, s, st, is, here, small) = c.requires in
    omega (arith, st.sends.end, st.common.ended, here, small)

pub overflow_add-self : goal.overflow_add-self
overflow_add-self c =
    let (terminal, loads, past, s, st, is, here, small) = c.requires in
    omega (arith, st.sent, here, small)

pub returns : goal.returns
returns c = λ terminal loads past s may st is here.
    let moment : Moment = record { shown = c.args.heard; has_items = may } in
    let begins = subst (λ (o : Option Channel). Listens LAG terminal o past s) (sym c.begins_in-begins.ensures)
    (answering-listens LAG terminal loads c.args.self.now past s st) in
    let listened = c.listen-both.ensures.listened terminal loads past s moment st.common is here refl begins in
    let told = c.listen-both.ensures.tells terminal loads past s moment st.common is here refl in
    let stands = listened.stands s in
    rw (c.of.ensures, c.either.ensures, c.either-left.ensures) (answering-step LAG terminal loads c.args.self.now
    (record { common = c.listen-both.new.self; sends = c.args.self.now.sends; sent = c.args.self.now.sent + 1 }) c.listen-both.result past moment s
    c.is_found-handled.result c.supersede-newer.result c.ignore-ignored.result
    (record { stood = st; listened = listened; told = told; sends = refl; sent = omega arith }) c.is_found-handled.ensures
    (c.supersede-newer.ensures terminal.address (moment ∷ past) (marked_by LAG terminal moment past s s) stands st.sends.channel st.sends.end)
    (c.ignore-ignored.ensures terminal.address (moment ∷ past) (marked_by LAG terminal moment past s s) stands))
