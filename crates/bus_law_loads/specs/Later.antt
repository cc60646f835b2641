-- Blocks that are put up for sending in a tick or later (data handed on is the project's own).
use Rattle.std.specs.Prelude.{ℕ, ◌≤◌, List}
use Rattle.std.specs.List.{AllByRecursion as Each}
use Rattle.bus_model.specs.Memory.{TimedLoad}

abbrev pub AreFrom : ℕ → List TimedLoad → Type 0
AreFrom tick loads = Each (λ load. tick ≤ load.tick) loads
