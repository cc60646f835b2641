use Rattle.std.proofs.Common.{◌≡◌, ℕ, ◌-◌, ◌<◌, ◌≤◌}
use Rattle.bus_wave.specs.Delays.{cell_at}
use Rattle.bus_wave.specs.Levels.{code_of}
use Rattle.bus_wave.proofs.drawer.Drawer.pass.Given as goal

abbrev pub invariant-ticks : goal.invariant-ticks
invariant-ticks l =
    (l.initial.self.tick ≤ l.self.tick) × (l.self.tick ≤ l.end) × (l.self.last ≡ l.initial.self.last)
    × ((t : ℕ) → l.initial.self.tick ≤ t → t < l.self.tick → cell_at l.line t ≡ code_of l.initial.self.last)

abbrev pub decreases-ticks : goal.decreases-ticks
decreases-ticks l = l.end - l.self.tick
