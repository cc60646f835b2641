-- Which command a terminal obeys in a tick, and which burst it takes for a promise, by tick numbers (MIL-STD-1553B 4.4.3.1, 4.4.3.2).
use Rattle.std.specs.Prelude.{◌≡◌, ◌⊎◌, ℕ, ◌+◌, ◌<◌, ◌≤◌, true, List, ◌∷◌, Option, Some, None}
use Rattle.bus_base.specs.Samples.{other_of}
use Rattle.bus_base.specs.declared.samples.Channel.{Channel}
use Rattle.bus_base.specs.declared.samples.Channel.TheVariants.{A}
use Rattle.bus_words.specs.declared.word.Word.{Word}
use Rattle.bus_line.specs.Bursts.{IsEndedNow}
use Rattle.bus_line.specs.Past.{Burst, burst_from, end_of, rest_of}
use Rattle.bus_formats.specs.Plans.{TerminalData}
use Rattle.bus_model.specs.Memory.{TimedLoad}
use Rattle.bus_model.specs.Orders.{Order, last_order}
use Rattle.bus_model.specs.Hearing.{Moment, Hearing, heard_on}
use Rattle.bus_model.specs.Standing.{Standing, is_promise}
use Rattle.bus_law_ticks.specs.Heeding.{IsHeeded, IsAddressedAt}

-- a slot with a command for the terminal on the other channel is newer than any on this: it ended later, or in the same tick on A
abbrev pub IsOlder : ℕ → TerminalData → List TimedLoad → Hearing → Channel → Type 0
IsOlder k terminal loads hearing c =
    (t : ℕ) × IsAddressedAt k terminal loads hearing (other_of c) t
    × ((u : ℕ) → IsAddressedAt k terminal loads hearing c u → (u < t) ⊎ ((u ≡ t) × (other_of c ≡ A)))

-- the end of a burst became known in the newest tick, on a channel that was heeded before it
pub record HearsEnd (k : ℕ) (terminal : TerminalData) (loads : List TimedLoad) (hearing : Hearing) (now : Moment) (c : Channel) (burst : Burst) : Type 0 where
  pub heeded : IsHeeded k terminal loads hearing c
  pub ended : IsEndedNow k (heard_on c (now ∷ hearing.ticks)) burst.first burst.ticks
  pub cut : burst ≡ burst_from (heard_on c (now ∷ hearing.ticks)) burst.first burst.ticks

-- a command is the last for the terminal in such a burst, with these slots after it, and none on the other channel is newer
pub record IsObeyed (k : ℕ) (terminal : TerminalData) (loads : List TimedLoad) (hearing : Hearing) (now : Moment) (c : Channel) (end : ℕ) (order : Order)
    (rest : ℕ) : Type 0 where
  pub burst : Burst
  pub hears : HearsEnd k terminal loads hearing now c burst
  pub last : last_order terminal.address burst.slots ≡ Some order
  pub end_is : end ≡ end_of burst
  pub rest_is : rest ≡ rest_of burst
  pub newest : IsOlder k terminal loads hearing c → ⊥

-- such a burst has no command for the terminal, which promised to take it: it began after at most 30 dead ticks, and no newer command came
pub record IsTaken (k : ℕ) (terminal : TerminalData) (loads : List TimedLoad) (hearing : Hearing) (now : Moment) (s : Standing) (end : ℕ)
    (slots : List (Option Word)) (rest : ℕ) : Type 0 where
  pub promised : is_promise s.duty ≡ true
  pub fresh : (t : ℕ) → s.end + k ≤ t → IsAddressedAt k terminal loads hearing (other_of s.channel) t → ⊥
  pub burst : Burst
  pub hears : HearsEnd k terminal loads hearing now s.channel burst
  pub none : last_order terminal.address burst.slots ≡ None
  pub soon : burst.first ≤ s.end + 30
  pub end_is : end ≡ end_of burst
  pub slots_are : slots ≡ burst.slots
  pub rest_is : rest ≡ rest_of burst
