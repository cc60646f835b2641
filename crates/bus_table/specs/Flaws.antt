-- Why the samples of a slot are no word (word validation, MIL-STD-1553B 4.4.1.1), and which word of a burst is the first bad one.
use Rattle.std.specs.Prelude.{ℕ, ◌+◌, ◌*◌, ◌==◌, Bool, true, false, if◌then◌else◌, List, [], ◌∷◌, length, Option, Some, None}
use Rattle.std.specs.Option.{option_or}
use Rattle.bus_base.specs.declared.samples.Sample.{Sample}
use Rattle.bus_base.specs.declared.samples.Sample.TheVariants.{Plus, Minus}
use Rattle.bus_words.specs.declared.word.Word.{Word}
use Rattle.bus_line.specs.Past.{Burst, rest_of, samples_from}
use Rattle.bus_table.specs.declared.flaw.Flaw.{Flaw}
use Rattle.bus_table.specs.declared.flaw.Flaw.TheVariants.{Sync, Bit, Parity, Rest}
use Rattle.bus_table.specs.declared.flaw.BadWord.{BadWord}

-- two samples are a bit where the sign changes between them (4.3.3.2)
abbrev pub is_bit : Sample → Sample → Bool
is_bit Plus Minus = true
is_bit Minus Plus = true
is_bit _ _ = false

-- the first of the bits that is none, the first of them having this bit time; where all are, the parity is wrong
abbrev pub bit_flaw : ℕ → List Sample → Flaw
bit_flaw n (x ∷ y ∷ more) = if is_bit x y then bit_flaw (n + 1) more else Bit n
bit_flaw n _ = Parity

-- the three bit times of the sync come first, and the bits from the fourth on (4.3.3.5.1.1, 4.3.3.5.2.1)
abbrev pub slot_flaw : List Sample → Flaw
slot_flaw (Plus ∷ Plus ∷ Plus ∷ Minus ∷ Minus ∷ Minus ∷ bits) = bit_flaw 4 bits
slot_flaw (Minus ∷ Minus ∷ Minus ∷ Plus ∷ Plus ∷ Plus ∷ bits) = bit_flaw 4 bits
slot_flaw _ = Sync

-- a slot that begins at tick p is bad where it has no word
abbrev pub bad_slot : List Sample → ℕ → Option Word → Option BadWord
bad_slot past p (Some word) = None
bad_slot past p None = Some record { at = p; flaw = slot_flaw (samples_from past p 40) }

-- the first bad one of the slots from tick p on
abbrev pub bad_slots : List Sample → ℕ → List (Option Word) → Option BadWord
bad_slots past p [] = None
bad_slots past p (word ∷ words) = option_or (bad_slot past p word) (bad_slots past (p + 40) words)

-- ticks behind the last whole slot are no word
abbrev pub bad_rest : ℕ → ℕ → Option BadWord
bad_rest p rest = if rest == 0 then None else Some record { at = p; flaw = Rest rest }

-- the first bad word of a burst
abbrev pub bad_in : List Sample → Burst → Option BadWord
bad_in past burst = option_or (bad_slots past burst.first burst.slots) (bad_rest (burst.first + 40 * length burst.slots) (rest_of burst))
