-- The words of a command or an answer, and what faults may leave of them (message formats 4.3.3.6, word validation 4.4.1.1).
use Rattle.std.specs.Prelude.{◌≡◌, ◌⊎◌, ⊤, ℕ, List, [], ◌∷◌, map, Option, Some, None}
use Rattle.bus_words.specs.declared.word.Word.{Word}
use Rattle.bus_formats.specs.Forms.{command_word, data_word}

-- the slots of words that are shown as they were sent
abbrev pub whole_slots : List Word → List (Option Word)
whole_slots words = map (λ word. Some word) words

-- a word with command sync, a command or a status, and the data words after it
abbrev pub with_data : ℕ → List ℕ → List Word
with_data bits words = command_word bits ∷ map data_word words

-- the data word that an extra adds
abbrev pub added_slot : Option Word
added_slot = Some (data_word 0)

-- the slots are what faults may leave of the words: each is the word that was sent there, or none, or an added word
abbrev pub AreLeftOf : List Word → List (Option Word) → Type 0
AreLeftOf words [] = ⊤
AreLeftOf [] (slot ∷ slots) = (slot ≡ added_slot) × AreLeftOf [] slots
AreLeftOf (word ∷ words) (slot ∷ slots) =
    ((slot ≡ Some word) ⊎ (slot ≡ None) ⊎ (slot ≡ added_slot)) × AreLeftOf words slots
