-- A message that is answered, and isn't abandoned (4.4.3.2 of MIL-STD-1553B; that answers are abandoned is the project's own).
use Rattle.std.specs.Prelude.{◌≡◌, ℕ, ◌+◌, ◌<◌, ◌≤◌, List, [], ◌∷◌, ◌++◌, length, Some}
use Rattle.bus_base.specs.declared.samples.Pair.{Pair}
use Rattle.bus_line.specs.Past.{quiet}
use Rattle.bus_line.specs.Channels.{on_channel}
use Rattle.bus_formats.specs.Times.{no_response}
use Rattle.bus_model.specs.Attempts.{Begun}
use Rattle.bus_model.specs.Course.{Course}

-- a message that runs, to a burst that ended in tick e, is answered from the tick to come on, in time
pub record IsAnsweredSoon (begun : Begun) (c : Course) (past : List Pair) (e : ℕ) : Type 0 where
  pub runs : c.runs ≡ Some begun
  pub prompt : length past ≤ e + no_response

-- it isn't abandoned in the newest tick: that isn't the one in which it is, so many ticks after tick e, or its channel is quiet there
abbrev pub IsKept : Begun → ℕ → List Pair → Type 0
IsKept begun e shown = (n : ℕ) → begun.entry.item.abandon ≡ Some n → length shown ≡ e + n → 0 < quiet (on_channel begun.state.channel shown)

-- nor in any of these ticks, which follow those of past
abbrev pub AreKept : Begun → ℕ → List Pair → List Pair → Type 0
AreKept begun e past [] = Unit {0}
AreKept begun e past (x ∷ ticks) = IsKept begun e ((x ∷ ticks) ++ past) × AreKept begun e past ticks
