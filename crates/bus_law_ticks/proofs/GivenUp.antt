-- When an answer that is owed is given up.
use Rattle.std.proofs.Common.{◌≡◌, ◌⊎◌, ◌↔◌, inl, inr, ℕ, ◌+◌, ◌<◌, ◌≤◌, Bool, true, false, ◌||◌, List, refl}
use Rattle.bus_base.specs.Samples.{other_of}
use Rattle.bus_line.specs.Bursts.{IsHeardAt}
use Rattle.bus_line.specs.Past.{heard_within}
use Rattle.bus_line.proofs.HeardLaws.{heard_within-is, heard_within-from}
use Rattle.bus_formats.specs.Plans.{TerminalData}
use Rattle.bus_formats.specs.Times.{dead_ticks}
use Rattle.bus_model.specs.Memory.{Memory, TimedLoad}
use Rattle.bus_model.specs.Hearing.{Moment, heard_on}
use Rattle.bus_model.specs.Standing.{Standing, superseded}
use Rattle.bus_model.specs.Terminal.{standing, given_up}
use Rattle.bus_law_ticks.specs.Heeding.{IsAddressedAt}
use Rattle.bus_law_ticks.proofs.Marks.{of}
use Rattle.bus_law_ticks.proofs.Addressed.{marked-from}

-- one of two tests
or-cases : (a b : Bool) → (a || b) ≡ true → (a ≡ true) ⊎ (b ≡ true)
or-cases true b h = inl refl
or-cases false b h = inr h

or-first : (a b : Bool) → a ≡ true → (a || b) ≡ true
or-first true b h = refl
or-first false b h = cc

or-second : (a b : Bool) → b ≡ true → (a || b) ≡ true
or-second true b h = refl
or-second false b h = h

-- an order is superseded by an addressed slot on the other channel from its tick on
pub superseded-is : (k : ℕ) (terminal : TerminalData) (loads : List TimedLoad) (memory : Memory) (ticks : List Moment) → k ≤ 39 →
    let s : Standing = standing k terminal loads memory ticks in
    (superseded k s ≡ true)
    ↔ ((t : ℕ) × (s.end + k ≤ t) × IsAddressedAt k terminal loads (of k terminal loads memory ticks) (other_of s.channel) t)
superseded-is k terminal loads memory ticks small =
    let s : Standing = standing k terminal loads memory ticks in
    marked-from k terminal loads memory (other_of s.channel) small ticks (s.end + k)

pub given-up-is : (k : ℕ) (terminal : TerminalData) (loads : List TimedLoad) (memory : Memory) (ticks : List Moment) → k ≤ 39 →
    let s : Standing = standing k terminal loads memory ticks in
    (given_up k terminal (heard_on s.channel ticks) s ≡ true)
    ↔ (((t : ℕ) × (s.end + k ≤ t) × IsAddressedAt k terminal loads record { memory = memory; ticks = ticks } (other_of s.channel) t)
    ⊎ ((t : ℕ) × (s.end ≤ t) × (t < s.end + dead_ticks terminal.delay) × IsHeardAt (heard_on s.channel ticks) t))
given-up-is k terminal loads memory ticks small =
    let s : Standing = standing k terminal loads memory ticks in
    let newer = superseded-is k terminal loads memory ticks small in
    let early : Bool = heard_within (heard_on s.channel ticks) s.end (s.end + dead_ticks terminal.delay) in (
      λ h. elim (or-cases (superseded k s) early h) [
        | inl taken ↦ inl (newer.0 taken)
        | inr heard ↦ inr (heard_within-is (heard_on s.channel ticks) s.end (s.end + dead_ticks terminal.delay) heard)
      ],
      λ why. elim why [
        | inl slot ↦ or-first (superseded k s) early (newer.1 slot)
        | inr w ↦ or-second (superseded k s) early
            (heard_within-from (heard_on s.channel ticks) s.end (s.end + dead_ticks terminal.delay) w.0 w.1 w.2 w.3)
      ],
    )
