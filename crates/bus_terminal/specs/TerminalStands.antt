-- For which hearings a terminal stands.
use Rattle.std.specs.Prelude.{ℕ, List, ◌<◌, ◌≤◌, length, get_or}
use Rattle.bus_base.specs.declared.samples.Channel.TheVariants.{A, B}
use Rattle.bus_receiver.specs.Cuts.{CuttersStand}
use Rattle.bus_formats.specs.Plans.{TerminalData}
use Rattle.bus_formats.specs.declared.plan.Load.{Load}
use Rattle.bus_model.specs.Memory.{TimedLoad}
use Rattle.bus_model.specs.Hearing.{Moment, Hearing, heard_on}
use Rattle.bus_model.specs.Terminal.{standing}
use Rattle.bus_terminal.specs.Stands.{StateStands}
use Rattle.bus_terminal.specs.declared.terminal.Terminal.{Terminal}

-- the terminal keeps what a hearing leaves, with the loads that were made so far: this is how its state may be after them
unfoldable pub TerminalKeeps : ℕ → TerminalData → List TimedLoad → Terminal → Hearing → Type 0
TerminalKeeps k plan loads terminal hearing =
    StateStands k plan loads terminal.state hearing.ticks (standing k plan loads hearing.memory hearing.ticks)

-- its own cutters stand for what both channels showed in these ticks
abbrev pub TerminalHears : ℕ → Terminal → List Moment → Type 0
TerminalHears k terminal ticks = CuttersStand k terminal.cutters (heard_on A ticks) (heard_on B ticks)

-- the terminal stands for a hearing, with the loads that were made so far: it keeps what that leaves, and hears by itself
unfoldable pub TerminalStands : ℕ → TerminalData → List TimedLoad → Terminal → Hearing → Type 0
TerminalStands k plan loads terminal hearing = TerminalKeeps k plan loads terminal hearing × TerminalHears k terminal hearing.ticks

-- the loads of a plan, each for a subaddress 1 to 29 and of 1 to 32 words
abbrev pub HasLoads : List Load → Type 0
HasLoads loads = (i : ℕ) (d : Load) → i < length loads →
    (1 ≤ (get_or loads i d).sub) × ((get_or loads i d).sub ≤ 29) × (1 ≤ length (get_or loads i d).words) × (length (get_or loads i d).words ≤ 32)
