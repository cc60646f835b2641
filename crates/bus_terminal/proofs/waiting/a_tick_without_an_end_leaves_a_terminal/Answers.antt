use Rattle.std.proofs.Common.{◌∷◌}
use Rattle.bus_line.specs.declared.cutter.TheConstants.{LAG}
use Rattle.bus_model.specs.Terminal.{standing}
use Rattle.bus_terminal.specs.TerminalStands.{TerminalKeeps}
use Rattle.bus_terminal.proofs.Quiet.{standing-tick}
use Rattle.bus_terminal.proofs.Waits.{state-waits}
use Rattle.bus_terminal.proofs.waiting.a_tick_without_an_end_leaves_a_terminal.Goals as goal

pub returns-clause-stands : goal.returns-clause-stands
unfolding TerminalKeeps
returns-clause-stands c = λ plan loads terminal hearing now waits st none.
    rw (standing-tick LAG plan loads hearing.memory now hearing.ticks)
    (state-waits LAG plan loads terminal.state now hearing.ticks (standing LAG plan loads hearing.memory hearing.ticks) waits st none).state

pub returns-clause-took : goal.returns-clause-took
unfolding TerminalKeeps
returns-clause-took c = λ plan loads terminal hearing now waits st none.
    (state-waits LAG plan loads terminal.state now hearing.ticks (standing LAG plan loads hearing.memory hearing.ticks) waits st none).taken

pub returns-clause-accepted : goal.returns-clause-accepted
unfolding TerminalKeeps
returns-clause-accepted c = λ plan loads terminal hearing now waits st none.
    (state-waits LAG plan loads terminal.state now hearing.ticks (standing LAG plan loads hearing.memory hearing.ticks) waits st none).accepted
