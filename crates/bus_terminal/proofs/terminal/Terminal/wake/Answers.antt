use Rattle.std.proofs.Common.{sym, subst}
use Rattle.bus_line.specs.Past.{quiet_ticks}
use Rattle.bus_line.specs.declared.cutter.TheConstants.{LAG}
use Rattle.bus_model.specs.Terminal.{memory_after}
use Rattle.bus_receiver.specs.Cuts.{CuttersStand}
use Rattle.bus_receiver.specs.declared.cutters.Cutters.{Cutters}
use Rattle.bus_terminal.specs.Shown.{common_of}
use Rattle.bus_terminal.specs.TerminalStands.{TerminalStands, TerminalKeeps}
use Rattle.bus_terminal.proofs.Quiet.{quiet-stands}
use Rattle.bus_terminal.proofs.Resting.{new-hears}
use Rattle.bus_terminal.proofs.Shows.{state-common}
use Rattle.bus_terminal.proofs.Waking.{woken-stands}
use Rattle.bus_terminal.proofs.terminal.Terminal.wake.Goals as goal

pub returns : goal.returns
unfolding TerminalStands TerminalKeeps
returns c = λ plan loads hearing n st made.
    let common = state-common LAG plan loads c.args.self.now.state hearing.ticks _ st in (
      rw (quiet-stands LAG plan loads (memory_after LAG plan loads hearing) n)
          (woken-stands LAG plan loads c.rest.new.self.state (common_of c.args.self.now.state) hearing.ticks _
          (memory_after LAG plan loads hearing) n common c.rest.ensures.state made common.memory),
      new-hears LAG c.rest.new.self.cutters n
          (λ a b. subst (λ (cutters : Cutters). CuttersStand LAG cutters (quiet_ticks a) (quiet_ticks b)) (sym c.rest.ensures.cutters) (c.new-self.ensures a b)),
    )
