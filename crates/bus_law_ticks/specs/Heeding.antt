-- When a terminal heeds a channel, and the slots there that are addressed to it, by tick numbers (superseding commands, MIL-STD-1553B 4.4.3.2).
use Rattle.std.specs.Prelude.{◌≡◌, ℕ, suc, ◌<◌, true, List, length, is_some}
use Rattle.bus_base.specs.declared.samples.Channel.{Channel}
use Rattle.bus_line.specs.Bursts.{IsSlotNow, IsEndSince}
use Rattle.bus_line.specs.Past.{slot_word}
use Rattle.bus_formats.specs.Plans.{TerminalData}
use Rattle.bus_model.specs.Memory.{TimedLoad}
use Rattle.bus_model.specs.Orders.{command_for}
use Rattle.bus_model.specs.Hearing.{Hearing, heard_on}
use Rattle.bus_model.specs.Terminal.{begins}
use Rattle.bus_law_ticks.specs.Ticks.{before, hearing_before, stood}

-- an answer of the terminal began on the channel in tick t
pub record BeginsAt (k : ℕ) (terminal : TerminalData) (loads : List TimedLoad) (hearing : Hearing) (c : Channel) (t : ℕ) : Type 0 where
  pub heard : t < length hearing.ticks
  pub begins_in : begins k terminal (before t hearing.ticks) (stood k terminal loads hearing t) ≡ true
  pub channel : (stood k terminal loads hearing t).channel ≡ c

-- the terminal heeds the channel in the tick to come: each answer that it began there has ended
abbrev pub IsHeeded : ℕ → TerminalData → List TimedLoad → Hearing → Channel → Type 0
IsHeeded k terminal loads hearing c =
    (t : ℕ) → BeginsAt k terminal loads hearing c t → (e : ℕ) × IsEndSince k (heard_on c hearing.ticks) t e

-- a slot with a command for the terminal ended on the channel in tick t, in which it was heeded
pub record IsAddressedAt (k : ℕ) (terminal : TerminalData) (loads : List TimedLoad) (hearing : Hearing) (c : Channel) (t : ℕ) : Type 0 where
  pub heard : t < length hearing.ticks
  pub first : ℕ
  pub number : ℕ
  pub slot : IsSlotNow k (heard_on c (before (suc t) hearing.ticks)) first number
  pub command : is_some (command_for terminal.address (slot_word (heard_on c (before (suc t) hearing.ticks)) first number)) ≡ true
  pub heeded : IsHeeded k terminal loads (hearing_before t hearing) c
