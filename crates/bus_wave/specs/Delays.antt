-- For which ticks a delay line stands, and what marks do to it. Nothing here has to be believed.
use Rattle.std.specs.Prelude.{◌≡◌, ℕ, suc, ◌+◌, ◌%◌, ◌<◌, ◌≤◌, Bool, false, nat_le, nat_lt, if◌then◌else◌, List, [], ◌∷◌, get_or, length}
use Rattle.bus_base.specs.declared.samples.Channel.{Channel}
use Rattle.bus_base.specs.declared.samples.Channel.TheVariants.{A, B}
use Rattle.bus_base.specs.declared.samples.Pair.{Pair}
use Rattle.bus_wave.specs.Levels.{shown_in}
use Rattle.bus_wave.specs.Marks.{no_marks, marked, blank}
use Rattle.bus_wave.specs.Told.{Told}
use Rattle.bus_wave.specs.Waves.{after, columns, horizon}
use Rattle.bus_wave.specs.declared.marks.Column.{Column}
use Rattle.bus_wave.specs.declared.marks.Mark.{Mark}
use Rattle.bus_wave.specs.declared.marks.TickMarks.{TickMarks}
use Rattle.bus_wave.specs.declared.delay_line.DelayLine.{DelayLine}

-- ---- what it keeps

abbrev pub no_tick_marks : TickMarks
no_tick_marks = record { a = no_marks; b = no_marks }

-- the marks with one more
abbrev pub tick_marks_with : Channel → Mark → TickMarks → TickMarks
tick_marks_with A mark marks = record marks { a = marked mark marks.a }
tick_marks_with B mark marks = record marks { b = marked mark marks.b }

-- the column of a tick: what was shown, and its marks, where it has any; a tick with marks has a number from 16 on
abbrev pub column_in : ℕ → TickMarks → Column
column_in cell marks = record {
  shown = shown_in cell;
  a = if nat_lt cell 16 then no_marks else marks.a;
  b = if nat_lt cell 16 then no_marks else marks.b;
}

abbrev pub cell_at : DelayLine → ℕ → ℕ
cell_at line t = get_or line.cells (t % 4096) 0

abbrev pub column_at : DelayLine → ℕ → Column
column_at line t = column_in (cell_at line t) (get_or line.marks (t % 4096) no_tick_marks)

-- after so many ticks it keeps the columns of the last ones
abbrev pub LineStands : DelayLine → ℕ → (ℕ → Column) → Type 0
LineStands line ticks known = (t : ℕ) → t < ticks → ticks ≤ t + 4096 → column_at line t ≡ known t

-- ---- marks

-- whether a tick isn't due before the next one, after so many
abbrev pub is_open : ℕ → ℕ → Bool
is_open ticks t = nat_le ticks (t + horizon)

-- a tick that was due is marked no more
abbrev pub open_after : ℕ → Channel → Told → (ℕ → Column) → ℕ → Column
open_after ticks c told known t = if is_open ticks t then after c told known t else known t

abbrev pub open_after_all : ℕ → Channel → List Told → (ℕ → Column) → ℕ → Column
open_after_all ticks c [] known = known
open_after_all ticks c (told ∷ more) known = open_after_all ticks c more (open_after ticks c told known)

-- these marks of a channel were added
abbrev pub Marked : DelayLine → DelayLine → ℕ → Channel → List Told → Type 0
Marked old new ticks c told = (known : ℕ → Column) → LineStands old ticks known → LineStands new ticks (open_after_all ticks c told known)

-- ---- what is known

-- what is known of each tick so far; of a tick that was due, what was known when it was
unfoldable pub kept : ℕ → List Pair → ℕ → Column
kept k [] = λ t. blank
kept k (shown ∷ past) = λ t. if is_open (suc (length past)) t then columns k (shown ∷ past) t else kept k past t
