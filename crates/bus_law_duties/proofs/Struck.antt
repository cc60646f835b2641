-- What hits leave of the words of a burst.
use Rattle.std.proofs.Common.{◌≡◌, ◌⊎◌, inl, inr, ℕ, zero, suc, ◌+◌, ◌-◌, Bool, true, false, List, [], ◌∷◌, ◌++◌, length, take, Option, Some, None, refl, All}
use Rattle.std.proofs.lemmas.List.Elements.{All-head, All-tail, All-take, All-replicate}
use Rattle.std.specs.Prelude.{if◌then◌else◌, replicate}
use Rattle.std.specs.List.{list_any}
use Rattle.bus_words.specs.declared.word.Word.{Word}
use Rattle.bus_formats.specs.declared.fault.Hit.{Hit}
use Rattle.bus_formats.specs.declared.fault.Hit.TheVariants.{Flip, Cut, Extra, Fade}
use Rattle.bus_model.specs.Strikes.{spoils, spoiled, cut_by, added_by, own_struck, most_words, struck}
use Rattle.bus_law_duties.specs.Words.{added_slot, AreLeftOf}

-- added words may follow any others
added-left : (words : List Word) (slots : List (Option Word)) → All (λ slot. slot ≡ added_slot) slots → AreLeftOf words slots
added-left words [] added = tt
added-left [] (slot ∷ slots) added =
    (All-head (λ s. s ≡ added_slot) slot slots added, added-left [] slots (All-tail (λ s. s ≡ added_slot) slot slots added))
added-left (word ∷ words) (slot ∷ slots) added = (
  inr (inr (All-head (λ s. s ≡ added_slot) slot slots added)),
  added-left words slots (All-tail (λ s. s ≡ added_slot) slot slots added),
)

-- slots with added words after them
append-left : (words : List Word) (slots more : List (Option Word)) → AreLeftOf words slots → ((others : List Word) → AreLeftOf others more) →
    AreLeftOf words (slots ++ more)
append-left words [] more left later = later words
append-left [] (slot ∷ slots) more left later = (left.0, append-left [] slots more left.1 later)
append-left (word ∷ words) (slot ∷ slots) more left later = (left.0, append-left words slots more left.1 later)

-- the first of them
pub take-left : (n : ℕ) (words : List Word) (slots : List (Option Word)) → AreLeftOf words slots → AreLeftOf words (take n slots)
take-left zero words slots left = tt
take-left (suc n) words [] left = tt
take-left (suc n) [] (slot ∷ slots) left = (left.0, take-left n [] slots left.1)
take-left (suc n) (word ∷ words) (slot ∷ slots) left = (left.0, take-left n words slots left.1)

-- a word that is spoiled or not
spoiled-or-not : (b : Bool) (word : Word) → ((if b then None else Some word) ≡ Some word) ⊎ ((if b then None else Some word) ≡ None)
    ⊎ ((if b then None else Some word) ≡ added_slot)
spoiled-or-not true word = inr (inl refl)
spoiled-or-not false word = inl refl

-- so with all words
spoiled-left : (hits : List Hit) (n : ℕ) (words : List Word) → AreLeftOf words (spoiled hits n words)
spoiled-left hits n [] = tt
spoiled-left hits n (word ∷ words) = (spoiled-or-not (list_any (spoils n) hits) word, spoiled-left hits (n + 1) words)

-- cuts keep the first of them
cut-left : (hits : List Hit) (words : List Word) (slots : List (Option Word)) → AreLeftOf words slots → AreLeftOf words (cut_by hits slots)
cut-left [] words slots left = left
cut-left (Flip word set ∷ hits) words slots left = cut-left hits words slots left
cut-left (Cut after ∷ hits) words slots left = cut-left hits words (take after slots) (take-left after words slots left)
cut-left (Extra more ∷ hits) words slots left = cut-left hits words slots left
cut-left (Fade word set ∷ hits) words slots left = cut-left hits words slots left

-- each slot is the word that was sent there, or none, or an added one
pub struck-left : (hits : List Hit) (words : List Word) → AreLeftOf words (struck hits words)
struck-left hits words =
    let own = own_struck hits words in
    append-left words own (take (most_words - length own) (replicate (added_by hits) added_slot))
    (cut-left hits words (spoiled hits 0 words) (spoiled-left hits 0 words))
    (λ others. added-left others (take (most_words - length own) (replicate (added_by hits) added_slot))
    (All-take (λ s. s ≡ added_slot) (most_words - length own) (replicate (added_by hits) added_slot)
    (All-replicate (λ s. s ≡ added_slot) (added_by hits) added_slot refl)))
