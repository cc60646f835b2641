-- The wave of a capture: what stands at each of its ticks, and its text.
use Rattle.std.specs.Prelude.{ℕ, zero, suc, ◌+◌, ◌-◌, ◌==◌, nat_lt, if◌then◌else◌, List, [], ◌∷◌, ◌++◌, length, Option, Some, None}
use Rattle.bus_base.specs.Samples.{quiet_pair, sample_on}
use Rattle.bus_base.specs.declared.samples.Channel.{Channel}
use Rattle.bus_base.specs.declared.samples.Channel.TheVariants.{A, B}
use Rattle.bus_base.specs.declared.samples.Pair.{Pair}
use Rattle.bus_line.specs.Channels.{on_channel, quiet_both}
use Rattle.bus_wave.specs.Marks.{Change, column_of, column_with, blank, tick_changes, time_change, mark_changes}
use Rattle.bus_wave.specs.Texts.{changes_text, head_text}
use Rattle.bus_wave.specs.Told.{Told, told_now, told_last}
use Rattle.bus_wave.specs.declared.marks.Column.{Column}

-- ---- columns by ticks

-- with a mark at a tick
abbrev pub after : Channel → Told → (ℕ → Column) → ℕ → Column
after c told columns t = if t == told.tick then column_with c told.mark (columns t) else columns t

abbrev pub after_all : Channel → List Told → (ℕ → Column) → ℕ → Column
after_all c [] columns = columns
after_all c (told ∷ more) columns = after_all c more (after c told columns)

-- with a new tick
abbrev pub begun : ℕ → Pair → (ℕ → Column) → ℕ → Column
begun tick shown columns t = if t == tick then column_of shown else columns t

-- the quiet ticks of both channels before the next one; none where all were quiet
abbrev pub gap_of : ℕ → ℕ → Option ℕ
gap_of quiet ticks = if quiet == ticks then None else Some quiet

abbrev pub gap_after : List Pair → Option ℕ
gap_after past = gap_of (quiet_both past) (length past)

abbrev pub told_on : ℕ → Channel → Pair → List Pair → List Told
told_on k c shown past = told_now k (gap_after past) (sample_on shown c) (on_channel c past)

-- what is known of each tick so far
unfoldable pub columns : ℕ → List Pair → ℕ → Column
columns k [] = λ t. blank
columns k (shown ∷ past) =
    after_all B (told_on k B shown past) (after_all A (told_on k A shown past) (begun (length past) shown (columns k past)))

-- ---- ticks that are drawn

-- a tick is drawn when this many ticks from it on were heard, as what is known of it then: the longest message that the standard allows has fewer,
-- relay, answers and time-outs included (4.3.3.6.3, 4.3.3.9)
abbrev pub horizon : ℕ
horizon = 1536

-- what was shown before a tick
abbrev pub shown_before : (ℕ → Column) → ℕ → Pair
shown_before known t = if t == 0 then quiet_pair else (known (t - 1)).shown

abbrev pub changes_at : (ℕ → Column) → ℕ → List Change
changes_at known t = tick_changes t (shown_before known t) (known t)

-- the tick that is drawn with the newest one, if one is
abbrev pub drawn_now : ℕ → List Pair → List Change
drawn_now k past = if nat_lt (length past) horizon then [] else changes_at (columns k past) (length past - horizon)

unfoldable pub drawn : ℕ → List Pair → List Change
drawn k [] = []
drawn k (shown ∷ past) = drawn k past ++ drawn_now k (shown ∷ past)

-- ---- the end

-- what is known of each tick at the end of the capture, and of the tick after the last
unfoldable pub columns_at_end : ℕ → List Pair → ℕ → Column
columns_at_end k past =
    after_all B (told_last k (on_channel B past))
    (after_all A (told_last k (on_channel A past)) (begun (length past) quiet_pair (columns k past)))

-- the lines of so many ticks from one on
unfoldable pub changes_from : (ℕ → Column) → ℕ → ℕ → List Change
changes_from known first zero = []
changes_from known first (suc n) = changes_from known first n ++ changes_at known (first + n)

-- the first tick that isn't drawn yet
abbrev pub undrawn : ℕ → ℕ
undrawn ticks = ticks - (horizon - 1)

-- the end: its time, and what ends there
abbrev pub end_changes : (ℕ → Column) → ℕ → List Change
end_changes known ticks = (time_change ticks ++ mark_changes A (known ticks).a) ++ mark_changes B (known ticks).b

abbrev pub changes_left : (ℕ → Column) → ℕ → List Change
changes_left known ticks = changes_from known (undrawn ticks) (ticks - undrawn ticks) ++ end_changes known ticks

-- all lines of the wave of a capture
abbrev pub wave_changes : ℕ → List Pair → List Change
wave_changes k past = drawn k past ++ changes_left (columns_at_end k past) (length past)

-- ---- texts

-- the text so far, before the end
unfoldable pub wave_so_far : ℕ → List Pair → List ℕ
wave_so_far k past = head_text ++ changes_text (drawn k past)

-- the wave of what both channels showed
unfoldable pub wave : ℕ → List Pair → List ℕ
wave k past = wave_so_far k past ++ changes_text (changes_left (columns_at_end k past) (length past))
