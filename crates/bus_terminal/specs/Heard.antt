-- How many ticks a terminal has heard.
use Rattle.std.specs.Prelude.{◌≡◌, ℕ, List, length}
use Rattle.bus_line.specs.declared.cutter.TheConstants.{LAG}
use Rattle.bus_formats.specs.Plans.{TerminalData}
use Rattle.bus_model.specs.Hearing.{Hearing}
use Rattle.bus_model.specs.Memory.{TimedLoad}
use Rattle.bus_terminal.specs.TerminalStands.{TerminalStands}
use Rattle.bus_terminal.specs.declared.terminal.Terminal.{Terminal}

-- it stands for some hearing of so many ticks
abbrev pub HasHeard : Terminal → ℕ → Type 0
HasHeard terminal ticks =
    (plan : TerminalData) × (loads : List TimedLoad) × (hearing : Hearing) × TerminalStands LAG plan loads terminal hearing × (length hearing.ticks ≡ ticks)
