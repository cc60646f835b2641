use Rattle.std.proofs.Common.{◌∙◌}
use Rattle.bus_line.specs.declared.cutter.TheConstants.{LAG}
use Rattle.bus_terminal.specs.TerminalStands.{TerminalKeeps}
use Rattle.bus_terminal.proofs.Shows.{state-drives}
use Rattle.bus_terminal.proofs.terminal.Terminal.drive.Goals as goal

pub returns : goal.returns
unfolding TerminalKeeps
returns c = λ plan loads hearing st. c.drive.ensures ∙ state-drives LAG plan loads c.args.self.now.state hearing.ticks _ st
