use Rattle.std.proofs.Common.{◌∷◌, ◌∙◌, refl, ap, arith, ◌||◌}
use Rattle.bus_line.specs.declared.cutter.TheConstants.{LAG}
use Rattle.bus_model.specs.Hearing.{Moment}
use Rattle.bus_model.specs.Terminal.{marked_by}
use Rattle.bus_terminal.proofs.Staying.{promised-step}
use Rattle.bus_terminal.proofs.PromisedTicks.{promised-listens}
use Rattle.bus_terminal.proofs.promised.Promised.listen.Goals as goal

pub listen-both-requires : goal.listen-both-requires
listen-both-requires c =
    let (terminal, loads, past, s, st, is, here, small) = c.requires in
    (terminal, loads, past, s, st.common, is, here, small)

pub runs_out-out-requires : goal.runs_out-out-requires
runs_out-out-requires c =
    let (terminal, loads, past, s, st, is, here, small) = c.requires in
    omega (arith, st.waiting.end, st.common.ended, here, small)

pub is_found-handled-requires : goal.is_found-handled-requires
is_found-handled-requires c =
    let (terminal, loads, past, s, st, is, here, small) = c.requires in
    omega (arith, st.waiting.end, st.common.ended, here, small)

pub supersede-newer-requires : goal.supersede-newer-requires
supersede-newer-requires c =
    let (terminal, loads, past, s, st, is, here, small) = c.requires in
    omega (arith, st.waiting.end, st.common.ended, here, small)

pub returns : goal.returns
returns c = λ terminal loads past s may st is here.
    let moment : Moment = record { shown = c.args.heard; has_items = may } in
    let listened = c.listen-both.ensures.listened terminal loads past s moment st.common is here refl
    (promised-listens LAG terminal loads c.args.self.now past s st) in
    let told = c.listen-both.ensures.tells terminal loads past s moment st.common is here refl in
    let since = c.either-self.ensures ∙ ap (λ b. c.args.self.now.heard || b) c.is_heard.ensures in
    rw (c.of.ensures, c.either.ensures) (promised-step LAG terminal loads c.args.self.now
    (record { common = c.listen-both.new.self; waiting = c.args.self.now.waiting; heard = c.either-self.result }) c.listen-both.result past moment s
    c.is_found-handled.result c.runs_out-out.result c.supersede-newer.result
    (record { stood = st; listened = listened; told = told; waiting = refl; since = since })
    (rw here c.runs_out-out.ensures) c.is_found-handled.ensures
    (c.supersede-newer.ensures terminal.address (moment ∷ past) (marked_by LAG terminal moment past s s) (listened.stands s) st.waiting.channel st.waiting.end))
