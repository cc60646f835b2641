-- The data words in slots, one after the other.
use Rattle.std.proofs.Common.{◌≡◌, ◌≢◌, ℕ, zero, suc, ◌+◌, ◌<◌, List, [], ◌∷◌, ◌++◌, length, drop, get_or, Option, Some, None, refl, sym, ap, add-one, append_assoc}
use Rattle.std.proofs.Math.Seq.{drop-cons, drop-length}
use Rattle.std.proofs.lemmas.List.{append-nil}
use Rattle.bus_words.specs.declared.word.Word.{Word}
use Rattle.bus_formats.specs.Readings.{datum_in, data_in, word_before}

-- words before those that are there
abbrev pub words_before : List ℕ → Option (List ℕ) → Option (List ℕ)
words_before words None = None
words_before words (Some rest) = Some (words ++ rest)

none_before : (word : Option ℕ) (words : Option (List ℕ)) → None ≡ words → None ≡ word_before word words
none_before None words e = refl
none_before (Some word) None e = refl
none_before (Some word) (Some words) e = cc

more_before : (block : List ℕ) (word : ℕ) (words : Option (List ℕ)) →
    words_before block (word_before (Some word) words) ≡ words_before (block ++ word ∷ []) words
more_before block word None = refl
more_before block word (Some words) = ap Some (sym (append_assoc block (word ∷ []) words))

-- slots of another number hold no such data
pub data-other : (count : ℕ) (slots : List (Option Word)) → length slots ≢ count → None ≡ data_in count slots
data-other zero [] h = absurd (h refl)
data-other zero (slot ∷ slots) h = refl
data-other (suc n) [] h = refl
data-other (suc n) (slot ∷ slots) h = none_before (datum_in slot) (data_in n slots) (data-other n slots (λ e. h (ap suc e)))

-- the words so far come before those of the slots that are left, one slot on
pub data-more : (slots : List (Option Word)) (i : ℕ) (d : Option Word) (block : List ℕ) (word : ℕ) → i < length slots →
    datum_in (get_or slots i d) ≡ Some word →
    words_before block (data_in (length (drop i slots)) (drop i slots))
    ≡ words_before (block ++ word ∷ []) (data_in (length (drop (i + 1) slots)) (drop (i + 1) slots))
data-more slots i d block word h e =
    rw (add-one, drop-cons slots i d h, e) (more_before block word (data_in (length (drop (suc i) slots)) (drop (suc i) slots)))

-- a slot without a datum leaves nothing
pub data-stops : (slots : List (Option Word)) (i : ℕ) (d : Option Word) (block : List ℕ) → i < length slots →
    datum_in (get_or slots i d) ≡ None → None ≡ words_before block (data_in (length (drop i slots)) (drop i slots))
data-stops slots i d block h e = rw (drop-cons slots i d h, e) refl

-- all slots are read
pub data-whole : (slots : List (Option Word)) (block : List ℕ) →
    words_before block (data_in (length (drop (length slots) slots)) (drop (length slots) slots)) ≡ Some block
data-whole slots block = rw (drop-length slots) (ap Some (append-nil block))
