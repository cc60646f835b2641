-- No part of a message is both cut and lengthened: so its words as they are shown are the first of those that are sent, and none is added, or all of them, and then zeros.
use Rattle.std.proofs.Common.{◌≡◌, ◌⊎◌, inl, inr, ℕ, zero, suc, ◌+◌, ◌-◌, Bool, true, false, List, [], ◌∷◌, ◌++◌, length, take, map, replicate, Option, Some, None, refl, sym, ap, ◌∙◌, subst, arith}
use Rattle.std.proofs.lemmas.Bool.{true≢false}
use Rattle.std.proofs.lemmas.Option.{none-some, same_Some}
use Rattle.std.specs.Prelude.{if◌then◌else◌, ◌&&◌, ◌==◌, AllPairs}
use Rattle.std.specs.List.{AllByRecursion as Each, list_any, cons_option}
use Rattle.std.proofs.lemmas.List.Elements.{recursion_from_All}
use Rattle.bus_base.specs.Samples.{same_part}
use Rattle.bus_base.specs.declared.samples.Part.{Part}
use Rattle.bus_base.specs.declared.samples.Part.TheVariants.{Command, First, Second}
use Rattle.bus_words.specs.declared.word.Word.{Word}
use Rattle.bus_formats.specs.Accepted.{StrikesTheSame, word_struck}
use Rattle.bus_formats.specs.Forms.{data_word}
use Rattle.bus_formats.specs.Readings.{datum_in, word_before, data_in}
use Rattle.bus_formats.specs.declared.fault.Fault.{Fault}
use Rattle.bus_formats.specs.declared.fault.Hit.{Hit}
use Rattle.bus_formats.specs.declared.fault.Hit.TheVariants.{Flip, Cut, Extra, Fade}
use Rattle.bus_model.specs.Strikes.{hit_on, hits_on, spoils, spoiled, cut_by, added_by, own_struck, struck}
use Rattle.bus_law_plans.proofs.Lists.{either, and-both, same-number}

-- ---- the hits of a part

-- nothing is added, or nothing is cut
abbrev pub Sole : List Hit → Type 0
Sole hits = (added_by hits ≡ 0) ⊎ ((slots : List (Option Word)) → cut_by hits slots ≡ slots)

-- the hit strikes a word
abbrev StrikesWord : Hit → Type 0
StrikesWord hit = word_struck hit ≡ None → ⊥

only-words : (hits : List Hit) → Each StrikesWord hits → (added_by hits ≡ 0) × ((slots : List (Option Word)) → cut_by hits slots ≡ slots)
only-words [] all = (refl, λ slots. refl)
only-words (Flip word set ∷ hits) all = only-words hits all.1
only-words (Fade word set ∷ hits) all = only-words hits all.1
only-words (Cut after ∷ hits) all = absurd (all.0 refl)
only-words (Extra words ∷ hits) all = absurd (all.0 refl)

-- no two faults strike the same
abbrev pub Distinct : List Fault → Type 0
Distinct [] = Unit {0}
Distinct (f ∷ faults) = Each (λ g. StrikesTheSame f g → ⊥) faults × Distinct faults

-- by the rule of the plan
pub distinct-from : (faults : List Fault) → AllPairs (λ a b. StrikesTheSame a b → ⊥) faults → Distinct faults
distinct-from [] h = tt
distinct-from (f ∷ faults) h = (
  recursion_from_All (λ g. StrikesTheSame f g → ⊥) faults (λ j d within. h 0 (suc j) d (omega arith) (omega (arith, within))),
  distinct-from faults (λ i j d before within. h (suc i) (suc j) d (omega (arith, before)) (omega (arith, within))),
)

same-is : (a b : Part) → same_part a b ≡ true → a ≡ b
same-is Command Command h = refl
same-is First First h = refl
same-is Second Second h = refl
same-is Command First h = absurd (true≢false (sym h))
same-is Command Second h = absurd (true≢false (sym h))
same-is First Command h = absurd (true≢false (sym h))
same-is First Second h = absurd (true≢false (sym h))
same-is Second Command h = absurd (true≢false (sym h))
same-is Second First h = absurd (true≢false (sym h))

record IsHitBy (n : ℕ) (part : Part) (f : Fault) (hit : Hit) : Type 0 where
  attempt_is : f.attempt ≡ n
  part_is : f.part ≡ part
  hit_is : f.hit ≡ hit

hit-by : (n : ℕ) (part : Part) (f : Fault) (hit : Hit) (b : Bool) → ((f.attempt == n) && same_part f.part part) ≡ b →
    (if b then Some f.hit else None) ≡ Some hit → IsHitBy n part f hit
hit-by n part f hit false test is = absurd (none-some hit is)
hit-by n part f hit true test is =
    let both = and-both (f.attempt == n) (same_part f.part part) test in
    record { attempt_is = same-number f.attempt n both.0; part_is = same-is f.part part both.1; hit_is = same_Some f.hit hit is }

module _ (n : ℕ) (part : Part) where
  -- the others of the part strike words, where this one strikes its length
  other-hits : (f : Fault) (hit : Hit) → IsHitBy n part f hit → word_struck hit ≡ None → (faults : List Fault) → Each (λ g. StrikesTheSame f g → ⊥) faults →
      Each StrikesWord (hits_on faults n part)
  other-hits f hit is length [] all = tt
  other-hits f hit is length (g ∷ faults) all = by-hit (hit_on n part g) refl (other-hits f hit is length faults all.1)
    where
      by-hit : (o : Option Hit) → hit_on n part g ≡ o → Each StrikesWord (hits_on faults n part) → Each StrikesWord (cons_option o (hits_on faults n part))
      by-hit None same rest = rest
      by-hit (Some other) same rest =
          let at : IsHitBy n part g other = hit-by n part g other ((g.attempt == n) && same_part g.part part) refl same in (
            (λ none. all.0 record {
              attempt = is.attempt_is ∙ sym at.attempt_is;
              part = is.part_is ∙ sym at.part_is;
              word = ap word_struck is.hit_is ∙ (length ∙ sym (ap word_struck at.hit_is ∙ none));
            }),
            rest,
          )

  sole-with : (hit : Hit) (hits : List Hit) → Sole hits → (word_struck hit ≡ None → Each StrikesWord hits) → Sole (hit ∷ hits)
  sole-with (Flip word set) hits (inl none) others = inl none
  sole-with (Flip word set) hits (inr same) others = inr same
  sole-with (Fade word set) hits (inl none) others = inl none
  sole-with (Fade word set) hits (inr same) others = inr same
  sole-with (Cut after) hits rest others = inl (only-words hits (others refl)).0
  sole-with (Extra words) hits rest others = inr (only-words hits (others refl)).1

  -- of each part of each attempt
  pub sole-of : (faults : List Fault) → Distinct faults → Sole (hits_on faults n part)
  sole-of [] all = inl refl
  sole-of (f ∷ faults) all = by-hit (hit_on n part f) refl (sole-of faults all.1)
    where
      by-hit : (o : Option Hit) → hit_on n part f ≡ o → Sole (hits_on faults n part) → Sole (cons_option o (hits_on faults n part))
      by-hit None same rest = rest
      by-hit (Some hit) same rest =
          let at : IsHitBy n part f hit = hit-by n part f hit ((f.attempt == n) && same_part f.part part) refl same in
          sole-with hit (hits_on faults n part) rest (λ length. other-hits f hit at length faults all.0)

-- ---- the words as they are shown

-- a word that an extra adds
abbrev pub IsZero : Option Word → Type 0
IsZero slot = slot ≡ Some (data_word 0)

-- each slot is the word in its place, or not valid; and those after all words are zeros
abbrev pub AreShown : List Word → List (Option Word) → Type 0
AreShown words [] = Unit {0}
AreShown [] (slot ∷ slots) = Each IsZero (slot ∷ slots)
AreShown (word ∷ words) (slot ∷ slots) = ((slot ≡ None) ⊎ (slot ≡ Some word)) × AreShown words slots

spoiled-shown : (hits : List Hit) (n : ℕ) (words : List Word) → AreShown words (spoiled hits n words)
spoiled-shown hits n [] = tt
spoiled-shown hits n (word ∷ words) = (
  either (λ (slot : Option Word). (slot ≡ None) ⊎ (slot ≡ Some word)) (list_any (spoils n) hits) None (Some word) (inl refl) (inr refl),
  spoiled-shown hits (n + 1) words,
)

take-shown : (n : ℕ) (words : List Word) (slots : List (Option Word)) → AreShown words slots → AreShown words (take n slots)
take-shown zero words [] h = tt
take-shown zero words (slot ∷ slots) h = tt
take-shown (suc n) words [] h = tt
take-shown (suc n) [] (slot ∷ slots) h = (h.0, rest n slots h.1)
  where
    rest : (m : ℕ) (ss : List (Option Word)) → Each IsZero ss → Each IsZero (take m ss)
    rest zero [] all = tt
    rest zero (s ∷ ss) all = tt
    rest (suc m) [] all = tt
    rest (suc m) (s ∷ ss) all = (all.0, rest m ss all.1)
take-shown (suc n) (word ∷ words) (slot ∷ slots) h = (h.0, take-shown n words slots h.1)

cut-shown : (hits : List Hit) (words : List Word) (slots : List (Option Word)) → AreShown words slots → AreShown words (cut_by hits slots)
cut-shown [] words slots h = h
cut-shown (Flip word set ∷ hits) words slots h = cut-shown hits words slots h
cut-shown (Fade word set ∷ hits) words slots h = cut-shown hits words slots h
cut-shown (Extra more ∷ hits) words slots h = cut-shown hits words slots h
cut-shown (Cut after ∷ hits) words slots h = cut-shown hits words (take after slots) (take-shown after words slots h)

-- zeros are shown after all words
pub zeros-shown : (zs : List (Option Word)) → Each IsZero zs → AreShown [] zs
zeros-shown [] all = tt
zeros-shown (z ∷ zs) all = all

whole-shown : (hits : List Hit) (n : ℕ) (words : List Word) (zs : List (Option Word)) → Each IsZero zs → AreShown words (spoiled hits n words ++ zs)
whole-shown hits n [] zs all = zeros-shown zs all
whole-shown hits n (word ∷ words) zs all = (
  either (λ (slot : Option Word). (slot ≡ None) ⊎ (slot ≡ Some word)) (list_any (spoils n) hits) None (Some word) (inl refl) (inr refl),
  whole-shown hits (n + 1) words zs all,
)

take-zeros : (m n : ℕ) → Each IsZero (take m (replicate n (Some (data_word 0))))
take-zeros zero zero = tt
take-zeros zero (suc n) = tt
take-zeros (suc m) zero = tt
take-zeros (suc m) (suc n) = (refl, take-zeros m n)

none-added : (own : List (Option Word)) (m n : ℕ) → n ≡ 0 → own ++ take m (replicate n (Some (data_word 0))) ≡ own
none-added own m n none = ap (λ i. own ++ take m (replicate i (Some (data_word 0)))) none ∙ (ap (λ l. own ++ l) (take-none m) ∙ append-none own)
  where
    take-none : (i : ℕ) → take i (replicate 0 (Some (data_word 0))) ≡ []
    take-none zero = refl
    take-none (suc i) = refl

    append-none : (xs : List (Option Word)) → xs ++ [] ≡ xs
    append-none [] = refl
    append-none (x ∷ xs) = ap (λ l. x ∷ l) (append-none xs)

-- the words of a part as they are shown
pub struck-shown : (hits : List Hit) (words : List Word) → Sole hits → AreShown words (struck hits words)
struck-shown hits words (inl none) =
    let own : List (Option Word) = own_struck hits words in
    subst (AreShown words) (sym (none-added own (40 - length own) (added_by hits) none)) (cut-shown hits words (spoiled hits 0 words) (spoiled-shown hits 0 words))
struck-shown hits words (inr same) =
    let own : List (Option Word) = own_struck hits words in
    let zs : List (Option Word) = take (40 - length own) (replicate (added_by hits) (Some (data_word 0))) in
    subst (λ l. AreShown words (l ++ zs)) (sym (same (spoiled hits 0 words))) (whole-shown hits 0 words zs (take-zeros (40 - length own) (added_by hits)))

-- ---- data words that are read of them

long-by : (n : ℕ) (slots : List (Option Word)) (words : List ℕ) (first : Option ℕ) (rest : Option (List ℕ)) →
    ((ws : List ℕ) → rest ≡ Some ws → length slots ≡ n) → word_before first rest ≡ Some words → suc (length slots) ≡ suc n
long-by n slots words None rest h is = absurd (none-some words is)
long-by n slots words (Some w) None h is = absurd (none-some words is)
long-by n slots words (Some w) (Some ws) h is = ap suc (h ws refl)

-- as many slots are read as are asked for
pub read-long : (count : ℕ) (slots : List (Option Word)) (words : List ℕ) → data_in count slots ≡ Some words → length slots ≡ count
read-long zero [] words is = refl
read-long zero (slot ∷ slots) words is = absurd (none-some words is)
read-long (suc n) [] words is = absurd (none-some words is)
read-long (suc n) (slot ∷ slots) words is = long-by n slots words (datum_in slot) (data_in n slots) (read-long n slots) is

same-by : (w : ℕ) (words ws : List ℕ) (slot : Option Word) (rest : Option (List ℕ)) → (slot ≡ None) ⊎ (slot ≡ Some (data_word w)) →
    ((vs : List ℕ) → rest ≡ Some vs → vs ≡ words) → word_before (datum_in slot) rest ≡ Some ws → ws ≡ w ∷ words
same-by w words ws slot rest (inl none) h is = absurd (none-some ws (sym (ap (λ s. word_before (datum_in s) rest) none) ∙ is))
same-by w words ws slot None (inr same) h is = absurd (none-some ws (sym (ap (λ s. word_before (datum_in s) None) same) ∙ is))
same-by w words ws slot (Some vs) (inr same) h is =
    sym (same_Some (w ∷ vs) ws (sym (ap (λ s. word_before (datum_in s) (Some vs)) same) ∙ is)) ∙ ap (λ l. w ∷ l) (h vs refl)

-- of as many words as were sent they are those
pub read-same : (words : List ℕ) (slots : List (Option Word)) → AreShown (map data_word words) slots → (ws : List ℕ) →
    data_in (length words) slots ≡ Some ws → ws ≡ words
read-same [] [] h ws is = sym (same_Some [] ws is)
read-same [] (slot ∷ slots) h ws is = absurd (none-some ws is)
read-same (w ∷ words) [] h ws is = absurd (none-some ws is)
read-same (w ∷ words) (slot ∷ slots) h ws is =
    same-by w words ws slot (data_in (length words) slots) h.0 (read-same words slots h.1) is
