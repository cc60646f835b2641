use Rattle.std.proofs.Common.{◌≡◌, ℕ, ◌-◌, ◌<◌, ◌≤◌, List, ◌++◌, length}
use Rattle.std.specs.Prelude.{Option}
use Rattle.bus_monitor.specs.Scribes.{Owed}
use Rattle.bus_wave.specs.Delays.{column_at}
use Rattle.bus_wave.specs.Drawers.{drawer_at}
use Rattle.bus_wave.specs.Texts.{changes_text}
use Rattle.bus_wave.specs.Waves.{changes_from, shown_before}
use Rattle.bus_wave.specs.declared.marks.Column.{Column}
use Rattle.bus_wave.proofs.wave_writer.WaveWriter.draw_to.Given as goal

abbrev pub invariant-ticks : goal.invariant-ticks
invariant-ticks g l =
    ((known : ℕ → Column) (all : List ℕ) (first : Option (List ℕ)) →
    ((t : ℕ) → l.initial.self.drawer.tick ≤ t → t < l.end → column_at l.initial.self.hearing.lister.line t ≡ known t) →
    l.initial.self.drawer.last ≡ shown_before known l.initial.self.drawer.tick → Owed all l.initial.self.text first (g.K.Sink.held l.initial.sink) →
    (l.self.drawer ≡ drawer_at known l.self.drawer.tick)
    × Owed (all ++ changes_text (changes_from known l.initial.self.drawer.tick (l.self.drawer.tick - l.initial.self.drawer.tick))) l.self.text first
    (g.K.Sink.held l.sink))
    × (l.initial.self.drawer.tick ≤ l.self.drawer.tick) × (l.self.drawer.tick ≤ l.end) × (length l.self.text ≤ 3000)
    × (l.self.hearing ≡ l.initial.self.hearing) × (g.K.Sink.faults l.initial.sink ≤ g.K.Sink.faults l.sink)

abbrev pub decreases-ticks : goal.decreases-ticks
decreases-ticks g l = l.end - l.self.drawer.tick
