-- What is drawn at one tick of one channel besides its level, and at one tick of both.
use Rattle.std.specs.Prelude.{ℕ, ◌==◌, Bool, true, false, ◌&&◌, if◌then◌else◌, List, [], ◌∷◌, ◌++◌, Option, Some, None, is_none}
use Rattle.bus_base.specs.Samples.{quiet_pair}
use Rattle.bus_base.specs.declared.samples.Channel.{Channel}
use Rattle.bus_base.specs.declared.samples.Channel.TheVariants.{A, B}
use Rattle.bus_base.specs.declared.samples.Pair.{Pair}
use Rattle.bus_base.specs.declared.samples.Sample.{Sample}
use Rattle.bus_base.specs.declared.samples.Sample.TheVariants.{Minus}
use Rattle.bus_line.specs.Spelling.{same_sample}
use Rattle.bus_wave.specs.declared.marks.Mark.{Mark}
use Rattle.bus_wave.specs.declared.marks.Mark.TheVariants as marks
use Rattle.bus_wave.specs.declared.marks.Marks.{Marks}
use Rattle.bus_wave.specs.declared.marks.MessageMark.{MessageMark}
use Rattle.bus_wave.specs.declared.marks.SenderMark.{SenderMark}
use Rattle.bus_wave.specs.declared.marks.WordMark.{WordMark}
use Rattle.bus_wave.specs.declared.marks.Column.{Column}

-- ---- marks of a channel

abbrev pub no_marks : Marks
no_marks = record { message = None; sender = None; gap = None; word = None }

-- the marks with one more, which takes the place of an earlier one of its line
abbrev pub marked : Mark → Marks → Marks
marked (marks.Message m) all = record all { message = Some m }
marked (marks.Sender s) all = record all { sender = Some s }
marked (marks.Gap quiet) all = record all { gap = Some quiet }
marked (marks.Word w) all = record all { word = Some w }

-- ---- columns: what stands at one tick

abbrev pub column_of : Pair → Column
column_of shown = record { shown = shown; a = no_marks; b = no_marks }

abbrev pub blank : Column
blank = column_of quiet_pair

abbrev pub column_with : Channel → Mark → Column → Column
column_with A mark column = record column { a = marked mark column.a }
column_with B mark column = record column { b = marked mark column.b }

-- ---- the lines of a dump

-- a time; a level of a channel, and whether it is negative; or what is drawn in another line of the channel
pub data Change : Type 0 where
  time : ℕ → Change
  level : Channel → Sample → Change
  negative : Channel → Bool → Change
  message : Channel → MessageMark → Change
  sender : Channel → SenderMark → Change
  gap : Channel → ℕ → Change
  word : Channel → WordMark → Change

abbrev pub is_minus : Sample → Bool
is_minus Minus = true
is_minus _ = false

abbrev pub same_bool : Bool → Bool → Bool
same_bool true true = true
same_bool false false = true
same_bool _ _ = false

abbrev pub level_change : Channel → Sample → Sample → List Change
level_change c before now = if same_sample before now then [] else level c now ∷ []

abbrev pub negative_change : Channel → Sample → Sample → List Change
negative_change c before now = if same_bool (is_minus before) (is_minus now) then [] else negative c (is_minus now) ∷ []

abbrev pub change_if : {T : Type 0} → (T → Change) → Option T → List Change
change_if line None = []
change_if line (Some x) = line x ∷ []

-- the lines of the marks of a channel
abbrev pub mark_changes : Channel → Marks → List Change
mark_changes c all =
    ((change_if (message c) all.message ++ change_if (sender c) all.sender) ++ change_if (gap c) all.gap) ++ change_if (word c) all.word

-- tick 0 stands in the head
abbrev pub time_change : ℕ → List Change
time_change t = if t == 0 then [] else time t ∷ []

abbrev pub level_changes : Channel → Sample → Sample → List Change
level_changes c before now = level_change c before now ++ negative_change c before now

abbrev pub is_unmarked : Marks → Bool
is_unmarked all = is_none all.message && is_none all.sender && is_none all.gap && is_none all.word

-- whether nothing changes at a tick, by what the tick before showed
abbrev pub is_still : Pair → Column → Bool
is_still before column =
    same_sample before.a column.shown.a && same_sample before.b column.shown.b && is_unmarked column.a && is_unmarked column.b

-- the lines of a tick: its time, the levels of A and B, the marks of A and B; none where nothing changes
abbrev pub changes_of : ℕ → Pair → Column → List Change
changes_of t before column =
    (((time_change t ++ level_changes A before.a column.shown.a) ++ level_changes B before.b column.shown.b)
    ++ mark_changes A column.a) ++ mark_changes B column.b

abbrev pub tick_changes : ℕ → Pair → Column → List Change
tick_changes t before column = if is_still before column then [] else changes_of t before column
