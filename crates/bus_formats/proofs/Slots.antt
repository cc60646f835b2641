-- Slots that hold data words.
use Rattle.std.proofs.Common.{◌≡◌, ℕ, zero, suc, ◌&&◌, nat_eq, List, [], ◌∷◌, length, Option, Some, None, is_some, refl, arith}
use Rattle.std.specs.List.{list_all}
use Rattle.bus_words.specs.declared.word.Word.{Word}
use Rattle.bus_formats.specs.Readings.{datum_in, data_in, word_before}

-- a word and words are there together where both are there
word_some : (d : Option ℕ) (ws : Option (List ℕ)) → is_some (word_before d ws) ≡ (is_some d && is_some ws)
word_some None ws = refl
word_some (Some d) None = refl
word_some (Some d) (Some ws) = refl

-- slots hold so many data words exactly where they are so many, and each holds one
pub data_some : (n : ℕ) (slots : List (Option Word)) →
    is_some (data_in n slots) ≡ (nat_eq (length slots) n && list_all (λ s. is_some (datum_in s)) slots)
data_some zero [] = refl
data_some zero (s ∷ slots) = grind arith
data_some (suc n) [] = grind arith
data_some (suc n) (s ∷ slots) = grind (arith, word_some (datum_in s) (data_in n slots), data_some n slots)
