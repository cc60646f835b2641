-- What damage leaves of a word's samples, and whether a reader notices it (MIL-STD-1553B 4.3.3.5.1.6, 4.4.1.1).
use Rattle.std.specs.Prelude.{◌≡◌, ◌≢◌, ℕ, Bool, if◌then◌else◌, List, length, get_or}
use Rattle.bus_base.specs.Flips.{takes}
use Rattle.bus_base.specs.Samples.{exchanged}
use Rattle.bus_base.specs.declared.samples.Sample.{Sample}
use Rattle.bus_base.specs.declared.samples.Sample.TheVariants.{Quiet}
use Rattle.bus_line.specs.Spelling.{Spells}
use Rattle.bus_words.specs.declared.word.Word.{Word}

-- the samples with plus and minus exchanged at the positions of a set
pub record IsFlipped (set : List Bool) (old new : List Sample) : Type 0 where
  pub as_long : length new ≡ length old
  pub each : (p : ℕ) → get_or new p Quiet ≡ (if takes set p then exchanged (get_or old p Quiet) else get_or old p Quiet)

-- the samples made quiet at the positions of a set
pub record IsFaded (set : List Bool) (old new : List Sample) : Type 0 where
  pub as_long : length new ≡ length old
  pub each : (p : ℕ) → get_or new p Quiet ≡ (if takes set p then Quiet else get_or old p Quiet)

-- whatever word is struck by flips at a set of positions, what is left spells none
abbrev pub AreFlipsNoticed : List Bool → Type 0
AreFlipsNoticed set =
    (word : Word) (old new : List Sample) → Spells word old → IsFlipped set old new → (other : Word) → Spells other new → ⊥

-- whatever word is struck by flips at a set of positions, what is left spells another
abbrev pub AreFlipsUnnoticed : List Bool → Type 0
AreFlipsUnnoticed set =
    (word : Word) (old new : List Sample) → Spells word old → IsFlipped set old new → (other : Word) × Spells other new × (other ≢ word)

-- whatever word fades at a set of positions, what is left spells none
abbrev pub AreFadesNoticed : List Bool → Type 0
AreFadesNoticed set =
    (word : Word) (old new : List Sample) → Spells word old → IsFaded set old new → (other : Word) → Spells other new → ⊥
