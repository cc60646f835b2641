use Rattle.std.proofs.Common.{ap}
use Rattle.bus_line.specs.declared.cutter.TheConstants.{LAG}
use Rattle.bus_model.specs.Memory.{Memory}
use Rattle.bus_terminal.specs.TerminalStands.{TerminalKeeps}
use Rattle.bus_terminal.proofs.Shows.{state-common}
use Rattle.bus_terminal.proofs.terminal.Terminal.registers.Goals as goal

pub returns : goal.returns
unfolding TerminalKeeps
returns c = λ plan loads hearing st. rw (c.registers.ensures, c.common.ensures) (ap (λ (m : Memory). m.registers)
    (state-common LAG plan loads c.args.self.now.state hearing.ticks _ st).memory)
