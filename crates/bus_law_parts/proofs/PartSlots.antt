-- The slots of a part as it is shown are the entries of the message table.
use Rattle.std.proofs.Common.{◌≡◌, inl, inr, ℕ, zero, suc, ◌+◌, ◌*◌, ◌/◌, ◌%◌, ◌<◌, ◌≤◌, true, false, List, [], ◌∷◌, length, take, map, get_or, Some, refl, sym, ap, ◌∙◌, arith}
use Rattle.std.proofs.lemmas.Bool.{cases_lt, lt-ltb, le-ltb}
use Rattle.std.proofs.lemmas.Option.{same_Some, slice_get_within, get_or_from_slice_get}
use Rattle.std.specs.Prelude.{nat_lt, slice_get}
use Rattle.std.specs.List.{All, range_with_len}
use Rattle.bus_base.specs.declared.samples.Part.{Part}
use Rattle.bus_base.specs.declared.samples.Sample.TheVariants.{Quiet}
use Rattle.bus_words.specs.declared.word.Word.{Word}
use Rattle.bus_line.specs.Past.{samples_from, slot_word, burst_from}
use Rattle.bus_line.specs.Spelling.{spelled, spelling, word_in}
use Rattle.bus_line.proofs.Guessed.{word_in-spelling}
use Rattle.bus_line.proofs.Spelled.{spelling_at}
use Rattle.bus_formats.specs.Forms.{data_word}
use Rattle.bus_formats.specs.declared.fault.Hit.{Hit}
use Rattle.bus_model.specs.Noticed.{shown_word}
use Rattle.bus_model.specs.Strikes.{own_struck, struck}
use Rattle.bus_model.specs.Wire.{struck_sample, zero_sample}
use Rattle.bus_law_line.specs.Shown.{sample_of_word, struck_of, first_samples}
use Rattle.bus_law_line.proofs.Rows.{samples-row}
use Rattle.bus_law_parts.specs.Parts.{HitsFit, part_ticks, part_sample}
use Rattle.bus_law_parts.proofs.Strikes.{apart-all, ranged-all, same-table, word-read}
use Rattle.bus_law_parts.proofs.Lengths.{own-slot, front-slot, added-slot, struck-long}

-- ---- the samples of a part

-- a sample of the own words, as they are struck
pub own-sample : (hits : List Hit) (words : List Word) (i : ℕ) → i < 40 * length (own_struck hits words) → part_sample hits words i ≡ struck_of hits words i
own-sample hits words i low = let own : nat_lt i (40 * length (own_struck hits words)) ≡ true = lt-ltb i (40 * length (own_struck hits words)) low in rw own refl

-- one that an extra adds
pub added-sample : (hits : List Hit) (words : List Word) (i : ℕ) → 40 * length (own_struck hits words) ≤ i → i < part_ticks hits words →
    part_sample hits words i ≡ zero_sample i
added-sample hits words i from low =
    let past : nat_lt i (40 * length (own_struck hits words)) ≡ false = le-ltb i (40 * length (own_struck hits words)) from in
    let inside : nat_lt i (40 * length (struck hits words)) ≡ true = lt-ltb i (40 * length (struck hits words)) low in
    rw (past, inside) refl

-- and nothing after it
pub no-sample : (hits : List Hit) (words : List Word) (i : ℕ) → part_ticks hits words ≤ i → part_sample hits words i ≡ Quiet
no-sample hits words i late =
    let all = struck-long hits words in
    let past : nat_lt i (40 * length (own_struck hits words)) ≡ false = le-ltb i (40 * length (own_struck hits words)) (omega (arith, late, all)) in
    let over : nat_lt i (40 * length (struck hits words)) ≡ false = le-ltb i (40 * length (struck hits words)) late in
    rw (past, over) refl

-- ---- one slot

word-at : (words : List Word) (i : ℕ) (word : Word) → All (λ (word : Word). word.bits < 65536) words → slice_get words i ≡ Some word → word.bits < 65536
word-at words i word bits there =
    let low : i < length words = slice_get_within words i word there in
    let same : get_or words i word ≡ word = get_or_from_slice_get words i word word there in
    rw same at (bits i word low)

-- sample j of word i
pub struck-at : (hits : List Hit) (words : List Word) (word : Word) (i j : ℕ) → slice_get words i ≡ Some word → j < 40 →
    struck_of hits words (40 * i + j) ≡ struck_sample (40 * i + j) hits (spelled word j)
struck-at hits words word i j there within =
    let place : (40 * i + j) / 40 ≡ i = omega (arith, within) in
    let inner : (40 * i + j) % 40 ≡ j = omega (arith, within) in
    ap (λ p. struck_sample (40 * i + j) hits (sample_of_word p (slice_get words ((40 * i + j) / 40)))) inner
    ∙ ap (λ p. struck_sample (40 * i + j) hits (sample_of_word j (slice_get words p))) place
    ∙ ap (λ o. struck_sample (40 * i + j) hits (sample_of_word j o)) there
    ∙ ap (struck_sample (40 * i + j) hits) (spelling_at word j within)

zero-at : (i j : ℕ) → j < 40 → zero_sample (40 * i + j) ≡ spelled (data_word 0) j
zero-at i j within =
    let inner : (40 * i + j) % 40 ≡ j = omega (arith, within) in
    ap (λ p. get_or (spelling (data_word 0)) p Quiet) inner ∙ spelling_at (data_word 0) j within

row-word : (hits : List Hit) (words : List Word) (m i : ℕ) → 40 * i + 40 ≤ m →
    slot_word (first_samples (part_sample hits words) m) 0 i ≡ word_in (map (λ j. part_sample hits words (40 * i + j)) (range_with_len 0 40))
unfolding slot_word
row-word hits words m i fits =
    let at : 0 + 40 * i ≡ 40 * i = omega arith in
    ap (λ p. word_in (samples_from (first_samples (part_sample hits words) m) p 40)) at
    ∙ ap word_in (samples-row (part_sample hits words) m (40 * i) 40 fits)

own-word : (hits : List Hit) (words : List Word) (word : Word) (i : ℕ) → slice_get words i ≡ Some word → i < length (own_struck hits words) →
    map (λ j. part_sample hits words (40 * i + j)) (range_with_len 0 40) ≡ shown_word i hits word
unfolding shown_word
own-word hits words word i there low =
    same-table (λ j. part_sample hits words (40 * i + j)) (λ j. struck_sample (40 * i + j) hits (spelled word j)) 0 40
    (λ j from within. own-sample hits words (40 * i + j) (omega (arith, low, within)) ∙ struck-at hits words word i j there (omega (arith, within)))

zero-word : (hits : List Hit) (words : List Word) (i : ℕ) → length (own_struck hits words) ≤ i → i < length (struck hits words) →
    map (λ j. part_sample hits words (40 * i + j)) (range_with_len 0 40) ≡ spelling (data_word 0)
unfolding spelling
zero-word hits words i from low =
    same-table (λ j. part_sample hits words (40 * i + j)) (spelled (data_word 0)) 0 40
    (λ j start within. added-sample hits words (40 * i + j) (omega (arith, from)) (omega (arith, low, within)) ∙ zero-at i j (omega (arith, within)))

-- slot i of so many samples of the row is entry i of the table
pub slot-read : (part : Part) (hits : List Hit) (words : List Word) (m i : ℕ) → HitsFit part hits words → i < length (struck hits words) → 40 * i + 40 ≤ m →
    slice_get (struck hits words) i ≡ Some (slot_word (first_samples (part_sample hits words) m) 0 i)
slot-read part hits words m i fits low long = elim (cases_lt i (length (own_struck hits words))) [
  | inl own ↦ (
      let slot = own-slot hits words i own in
      let read = word-read part i hits slot.word (word-at words i slot.word fits.bits slot.there) (apart-all hits fits.apart) (ranged-all part hits fits.ranges) slot.keeps in
      front-slot hits words i own ∙ slot.slot
      ∙ ap (λ o. Some o) (sym (row-word hits words m i long ∙ ap word_in (own-word hits words slot.word i slot.there own) ∙ read)))
  | inr extra ↦ (
      added-slot hits words i extra low
      ∙ ap (λ o. Some o) (sym (row-word hits words m i long ∙ ap word_in (zero-word hits words i extra low) ∙ word_in-spelling (data_word 0) (omega arith))))
]

-- ---- all slots

take-table : {X : Type 0} (f : ℕ → X) (a n : ℕ) (xs : List X) → n ≤ length xs → ((i : ℕ) → i < n → slice_get xs i ≡ Some (f (a + i))) →
    map f (range_with_len a n) ≡ take n xs
take-table f a zero xs few each = refl
take-table f a (suc n) [] few each = absurd (omega (arith, few))
take-table f a (suc n) (x ∷ xs) few each =
    let here : a + 0 ≡ a = omega arith in
    let first : x ≡ f a = same_Some x (f a) (rw here at (each 0 (omega arith))) in
    let rest = take-table f (a + 1) n xs (omega (arith, few)) (λ i low. let on : a + suc i ≡ a + 1 + i = omega arith in rw on at (each (suc i) (omega (arith, low)))) in
    rw (rest, first) refl

-- the slots of so many samples of the row are the first entries of the table
pub slots-read : (part : Part) (hits : List Hit) (words : List Word) (m : ℕ) → HitsFit part hits words → m ≤ part_ticks hits words →
    (burst_from (first_samples (part_sample hits words) m) 0 m).slots ≡ take (m / 40) (struck hits words)
unfolding burst_from
slots-read part hits words m fits within =
    take-table (slot_word (first_samples (part_sample hits words) m) 0) 0 (m / 40) (struck hits words) (omega (arith, within))
    (λ i low. let here : 0 + i ≡ i = omega arith in rw here (slot-read part hits words m i fits (omega (arith, within, low)) (omega (arith, low))))
