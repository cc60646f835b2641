use Rattle.std.proofs.Common.{subst}
use Rattle.bus_line.specs.declared.cutter.TheConstants.{LAG}
use Rattle.bus_terminal.specs.Handling.{HandledIs}
use Rattle.bus_terminal.specs.declared.handling.Handled.{Handled}
use Rattle.bus_terminal.proofs.Performing.{performed-obeys, performed-settles, performed-runs_out}
use Rattle.bus_terminal.proofs.handling.perform.Goals as goal

pub returns-in-Obeys-clause-does : goal.returns-in-Obeys-clause-does
returns-in-Obeys-clause-does c = λ s order is.
    performed-obeys LAG c.args.terminal.now c.args.memory.now c.obey-done.new.memory s order c.args.may_accept c.in-Obeys.channel c.in-Obeys.command
    c.in-Obeys.burst c.obey-done.result
    (subst (λ (h : Handled). HandledIs h order s) c.in-Obeys.is is) (rw (← c.as_slice.ensures.value) c.obey-done.ensures)

pub returns-in-Settles-clause-does : goal.returns-in-Settles-clause-does
returns-in-Settles-clause-does c = λ s order is.
    performed-settles LAG c.args.terminal.now c.args.memory.now c.keep_promise-done.new.memory s order c.args.may_accept c.in-Settles.waiting
    c.in-Settles.burst c.keep_promise-done.result
    (subst (λ (h : Handled). HandledIs h order s) c.in-Settles.is is) (rw (← c.as_slice-in-Settles.ensures.value) c.keep_promise-done.ensures)

pub returns-in-RunsOut-clause-does : goal.returns-in-RunsOut-clause-does
returns-in-RunsOut-clause-does c = λ s order is.
    performed-runs_out LAG c.args.terminal.now c.args.memory.now c.unkept.new.memory s order c.args.may_accept c.in-RunsOut.waiting c.unkept.result
    (subst (λ (h : Handled). HandledIs h order s) c.in-RunsOut.is is) c.unkept.ensures
