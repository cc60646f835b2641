use Rattle.std.proofs.Common.{refl}
use Rattle.bus_line.specs.declared.cutter.TheConstants.{LAG}
use Rattle.bus_model.specs.Hearing.{Moment}
use Rattle.bus_terminal.proofs.Staying.{listening-step}
use Rattle.bus_terminal.proofs.Ticks.{rests-listens}
use Rattle.bus_terminal.proofs.listening.Listening.listen.Goals as goal

pub listen-both-requires : goal.listen-both-requires
listen-both-requires c =
    let (terminal, loads, past, s, st, is, here, small) = c.requires in
    (terminal, loads, past, s, st.common, is, here, small)

pub returns : goal.returns
returns c = λ terminal loads past s may st is here.
    let moment : Moment = record { shown = c.args.heard; has_items = may } in
    let listened = c.listen-both.ensures.listened terminal loads past s moment st.common is here refl (rests-listens LAG terminal past s st.rests_now) in
    let told = c.listen-both.ensures.tells terminal loads past s moment st.common is here refl in
    rw c.of.ensures (listening-step LAG terminal loads c.args.self.now (record { common = c.listen-both.new.self }) c.listen-both.result past moment s
    c.is_found.result (record { stood = st; listened = listened; told = told }) c.is_found.ensures)
