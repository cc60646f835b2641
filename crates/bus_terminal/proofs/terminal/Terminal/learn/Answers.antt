use Rattle.std.proofs.Common.{ℕ, ◌∷◌, length, subst}
use Rattle.bus_line.specs.declared.cutter.TheConstants.{LAG}
use Rattle.bus_model.specs.Hearing.{Moment}
use Rattle.bus_model.specs.Standing.{Standing}
use Rattle.bus_model.specs.Terminal.{standing, order_now, taken_by}
use Rattle.bus_terminal.proofs.Quiet.{standing-tick}
use Rattle.bus_terminal.specs.Stands.{TakenIs, channel_of}
use Rattle.bus_terminal.specs.TerminalStands.{TerminalKeeps}
use Rattle.bus_terminal.proofs.terminal.Terminal.learn.Goals as goal

pub step-requires : goal.step-requires
unfolding TerminalKeeps
step-requires c =
    let (plan, loads, hearing, st, is, here, small) = c.requires in
    (plan, loads, hearing.ticks, standing LAG plan loads hearing.memory hearing.ticks, st, is, here, small)

pub returns-clause-stands : goal.returns-clause-stands
unfolding TerminalKeeps
returns-clause-stands c = λ plan loads hearing st is here.
    let now : Moment = record { shown = c.args.heard; has_items = c.args.may_accept } in
    rw (standing-tick LAG plan loads hearing.memory now hearing.ticks)
    (c.step.ensures.next plan loads hearing.ticks (standing LAG plan loads hearing.memory hearing.ticks) st is here).state

pub returns-clause-took : goal.returns-clause-took
unfolding TerminalKeeps
returns-clause-took c = λ plan loads hearing st is here.
    let now : Moment = record { shown = c.args.heard; has_items = c.args.may_accept } in
    let s : Standing = standing LAG plan loads hearing.memory hearing.ticks in
    subst (λ (n : ℕ). TakenIs c.step.result n (channel_of s (order_now LAG plan (now ∷ hearing.ticks) s)) (taken_by LAG plan loads
    (length hearing.ticks) now.has_items s (order_now LAG plan (now ∷ hearing.ticks) s)))
    here (c.step.ensures.next plan loads hearing.ticks s st is here).taken

pub returns-clause-accepted : goal.returns-clause-accepted
unfolding TerminalKeeps
returns-clause-accepted c = λ plan loads hearing st is here.
    (c.step.ensures.next plan loads hearing.ticks (standing LAG plan loads hearing.memory hearing.ticks) st is here).accepted
