-- The orders that a terminal handled, by the ticks in which it did (MIL-STD-1553B 4.4.3), and what the last of them left.
use Rattle.std.specs.Prelude.{◌≡◌, ℕ, suc, ◌<◌, List, ◌∷◌, length, Some}
use Rattle.bus_formats.specs.Plans.{TerminalData}
use Rattle.bus_model.specs.Memory.{TimedLoad}
use Rattle.bus_model.specs.Hearing.{Moment, Hearing}
use Rattle.bus_model.specs.Standing.{Standing, Handled}
use Rattle.bus_model.specs.Terminal.{order_now}
use Rattle.bus_law_ticks.specs.Ticks.{before, stood}

-- the terminal handled this order in tick t, which it heard so
pub record HandledAt (k : ℕ) (terminal : TerminalData) (loads : List TimedLoad) (hearing : Hearing) (t : ℕ) (now : Moment) (order : Handled) : Type 0 where
  pub heard : t < length hearing.ticks
  pub ticks_are : before (suc t) hearing.ticks ≡ now ∷ before t hearing.ticks
  pub handled : order_now k terminal (now ∷ before t hearing.ticks) (stood k terminal loads hearing t) ≡ Some order

-- it was the last
pub record HandledLastAt (k : ℕ) (terminal : TerminalData) (loads : List TimedLoad) (hearing : Hearing) (t : ℕ) (now : Moment) (order : Handled) : Type 0 where
  pub at : HandledAt k terminal loads hearing t now order
  pub last : (u : ℕ) (moment : Moment) (other : Handled) → t < u → HandledAt k terminal loads hearing u moment other → ⊥

-- two that are the same but for their marks: what is kept, and what was left of which burst
pub record SameButMarks (s other : Standing) : Type 0 where
  pub memory : s.memory ≡ other.memory
  pub channel : s.channel ≡ other.channel
  pub end : s.end ≡ other.end
  pub duty : s.duty ≡ other.duty
  pub part : s.part ≡ other.part
