-- What a terminal had heard before a tick, and what stood of it then, by tick numbers.
use Rattle.std.specs.Prelude.{ℕ, ◌-◌, List, length, drop}
use Rattle.bus_formats.specs.Plans.{TerminalData}
use Rattle.bus_model.specs.Memory.{TimedLoad}
use Rattle.bus_model.specs.Hearing.{Moment, Hearing}
use Rattle.bus_model.specs.Standing.{Standing}
use Rattle.bus_model.specs.Terminal.{standing}

-- the ticks before tick t, the newest first
abbrev pub before : ℕ → List Moment → List Moment
before t ticks = drop (length ticks - t) ticks

-- the same hearing before tick t
abbrev pub hearing_before : ℕ → Hearing → Hearing
hearing_before t hearing = record hearing { ticks = before t hearing.ticks }

-- what stood before tick t
abbrev pub stood : ℕ → TerminalData → List TimedLoad → Hearing → ℕ → Standing
stood k terminal loads hearing t = standing k terminal loads hearing.memory (before t hearing.ticks)
