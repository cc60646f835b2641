-- A terminal after a tick that it heard, and what it told of it.
use Rattle.std.specs.Prelude.{ℕ, ◌∷◌, List}
use Rattle.bus_formats.specs.Plans.{TerminalData}
use Rattle.bus_model.specs.Memory.{TimedLoad}
use Rattle.bus_model.specs.Hearing.{Moment, Hearing}
use Rattle.bus_model.specs.Terminal.{standing, order_now, took_now, accepted_now}
use Rattle.bus_model.specs.Control.{hear_more}
use Rattle.bus_terminal.specs.Stands.{TakenIs, AcceptedIs, channel_of}
use Rattle.bus_terminal.specs.TerminalStands.{TerminalKeeps}
use Rattle.bus_terminal.specs.declared.terminal.Terminal.{Terminal}
use Rattle.bus_terminal.specs.declared.state.TerminalEvent.{TerminalEvent}

-- it stands for one tick more, and told the block that it took, or that it accepted control
pub record HeardBy (k : ℕ) (t : TerminalData) (loads : List TimedLoad) (terminal : Terminal) (event : TerminalEvent) (tick : ℕ) (hearing : Hearing)
    (now : Moment) : Type 0 where
  pub stands : TerminalKeeps k t loads terminal (hear_more hearing now)
  pub took : TakenIs event tick
      (channel_of (standing k t loads hearing.memory hearing.ticks)
      (order_now k t (now ∷ hearing.ticks) (standing k t loads hearing.memory hearing.ticks)))
      (took_now k t loads (hear_more hearing now))
  pub accepted : AcceptedIs event (accepted_now k t loads (hear_more hearing now))
