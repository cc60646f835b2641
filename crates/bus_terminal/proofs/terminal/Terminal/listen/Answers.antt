use Rattle.std.proofs.Common.{◌∷◌}
use Rattle.bus_line.specs.declared.cutter.TheConstants.{LAG}
use Rattle.bus_model.specs.Terminal.{standing}
use Rattle.bus_terminal.specs.TerminalStands.{TerminalKeeps}
use Rattle.bus_terminal.proofs.terminal.Terminal.listen.Goals as goal

pub listen-requires : goal.listen-requires
unfolding TerminalKeeps
listen-requires c =
    let (plan, loads, hearing, st, are, here, small) = c.requires in
    (plan, loads, hearing.ticks, standing LAG plan loads hearing.memory hearing.ticks, st, are, here, small)

pub returns-clause-listened : goal.returns-clause-listened
unfolding TerminalKeeps
returns-clause-listened c = λ plan loads hearing may st are here.
    c.listen.ensures plan loads hearing.ticks (standing LAG plan loads hearing.memory hearing.ticks) may st are here
