use Rattle.bus_terminal.specs.TerminalStands.{TerminalStands, TerminalKeeps}
use Rattle.bus_terminal.proofs.Resting.{new-hears}
use Rattle.bus_terminal.proofs.terminal.Terminal.new.Goals as goal

pub returns : goal.returns
unfolding TerminalStands TerminalKeeps
returns c = λ n. (c.new.ensures n, new-hears _ _ n c.new-2.ensures)
