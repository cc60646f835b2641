use Rattle.std.proofs.Common.{◌∙◌, sym}
use Rattle.bus_line.specs.declared.cutter.TheConstants.{LAG}
use Rattle.bus_terminal.specs.TerminalStands.{TerminalKeeps}
use Rattle.bus_terminal.proofs.Shows.{state-drives}
use Rattle.bus_terminal.proofs.Waits.{state-silent}
use Rattle.bus_terminal.proofs.waiting.a_terminal_that_waits_is_silent.Goals as goal

pub returns : goal.returns
unfolding TerminalKeeps
returns c = λ plan loads terminal hearing waits st.
    sym (state-drives LAG plan loads terminal.state hearing.ticks _ st) ∙ state-silent terminal.state waits
