use Rattle.std.proofs.Common.{ap, ◌∙◌, false, subst, sym, ◌≤◌}
use Rattle.bus_line.specs.declared.cutter.TheConstants.{LAG}
use Rattle.bus_formats.specs.Plans.{TerminalData}
use Rattle.bus_formats.specs.declared.log.Registers.{Registers}
use Rattle.bus_model.specs.Memory.{Memory, status_of}
use Rattle.bus_terminal.specs.TerminalStands.{TerminalKeeps}
use Rattle.bus_terminal.specs.declared.common.Common.{Common}
use Rattle.bus_terminal.proofs.Shows.{state-common}
use Rattle.bus_terminal.proofs.terminal.Terminal.status.Goals as goal

pub status_of-requires : goal.status_of-requires
unfolding TerminalKeeps
status_of-requires c =
    let (plan, loads, hearing, st) = c.requires in
    let common = state-common LAG plan loads c.args.self.now.state hearing.ticks _ st in
    subst (λ (p : TerminalData). p.address ≤ 31) (sym (ap (λ (x : Common). x.plan) c.common-common.ensures ∙ common.plan)) common.fits.address

pub returns : goal.returns
unfolding TerminalKeeps
returns c = λ plan loads hearing st.
    let common = state-common LAG plan loads c.args.self.now.state hearing.ticks _ st in
    c.status_of.ensures
    ∙ ap (λ (p : TerminalData). status_of p c.registers.result.now false) (ap (λ (x : Common). x.plan) c.common-common.ensures ∙ common.plan)
    ∙ ap (λ (r : Registers). status_of plan r false)
    (c.registers.ensures ∙ ap (λ (x : Common). x.memory.registers) c.common-common.ensures ∙ ap (λ (m : Memory). m.registers) common.memory)
