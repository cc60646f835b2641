-- The word that samples may spell, and `word_in`, which finds it.
use Rattle.std.proofs.Common.{◌≡◌, ℕ, ◌+◌, ◌-◌, ◌*◌, ◌<◌, Bool, true, false, if◌then◌else◌, List, [], ◌∷◌, get_or, count_ones, ◌%◌, Option, Some, None, MatchOption, refl, sym, ap, ◌∙◌, arith, subst, inl, inr}
use Rattle.std.proofs.lemmas.Bool.{and_parts, false_from_ne_true, cases_Bool, false≢true}
use Rattle.std.proofs.lemmas.Nat.Bits.{same_from_bits_below}
use Rattle.bus_base.specs.declared.samples.Sample.{Sample}
use Rattle.bus_base.specs.declared.samples.Sample.TheVariants.{Plus, Minus, Quiet}
use Rattle.bus_words.specs.declared.word.Word.{Word}
use Rattle.bus_words.specs.declared.word.Sync.{Sync}
use Rattle.bus_words.specs.declared.word.Sync.TheVariants.{Command, Datum}
use Rattle.bus_line.specs.Spelling.{Spells, SpellsBit, first_half, leads_plus, spelling, is_one, is_plus, number_of, guessed, same_sample, same_samples, word_in}
use Rattle.bus_line.proofs.Spelled.{spelling_spells, spells_only}
use Rattle.bus_line.proofs.Numbers.{number_below, number_bit, same_bit}

-- the first halves of the bits after the sync
abbrev pub firsts : List Sample → ℕ → Bool
firsts s = λ i. is_plus (get_or s (6 + 2 * i) Quiet)

-- a bit is told by its first half
pub plus_half : (b : Bool) → is_plus (first_half b) ≡ b
plus_half true = refl
plus_half false = refl

-- words with the same parts are the same
same_word : (w : Word) (y : Sync) (n : ℕ) → y ≡ w.sync → n ≡ w.bits → (let v : Word = record { sync = y; bits = n } in v) ≡ w
same_word w y n p q =
    let make : Sync → ℕ → Word = λ a b. record { sync = a; bits = b } in
    ap (λ a. make a n) p ∙ ap (λ b. make w.sync b) q

-- a sync is told by its first sample
sync_by_lead : (y : Sync) → (if is_plus (first_half (leads_plus y)) then Command else Datum) ≡ y
sync_by_lead Command = refl
sync_by_lead Datum = refl

-- the bit that two samples spell is in the first of them, so they spell one bit alone
pub first_is : (s : List Sample) (p : ℕ) (b : Bool) → SpellsBit s p b → is_plus (get_or s p Quiet) ≡ b
first_is s p b h = ap is_plus h.first ∙ plus_half b

-- a pair of samples spells one bit alone
pub same_one : (s : List Sample) (p : ℕ) (a b : Bool) → SpellsBit s p a → SpellsBit s p b → a ≡ b
same_one s p a b h k = sym (first_is s p a h) ∙ first_is s p b k

-- samples spell the bits of a number
abbrev pub SpellsBits : List Sample → ℕ → Type 0
SpellsBits s bits = (i : ℕ) → i < 16 → SpellsBit s (6 + 2 * i) (is_one bits (15 - i))

-- and of no other
pub same_bits : (s : List Sample) (m n : ℕ) → m < 65536 → n < 65536 → SpellsBits s m → SpellsBits s n → m ≡ n
same_bits s m n small low h k = same_from_bits_below 16 m n small low (λ j q.
    let place : 15 - (15 - j) ≡ j = omega arith in
    let within : 15 - j < 16 = omega arith in
    same_bit m n j j (rw place at
    (same_one s (6 + 2 * (15 - j)) (is_one m (15 - (15 - j))) (is_one n (15 - (15 - j))) (h (15 - j) within) (k (15 - j) within))))

-- pairs that are bits spell the number of their first halves
pub bits_spelled : (s : List Sample) (n bits : ℕ) → n ≡ 16 → bits ≡ number_of (firsts s) n →
    ((i : ℕ) → i < n → SpellsBit s (6 + 2 * i) (firsts s i)) → SpellsBits s bits
bits_spelled s n bits e f pairs i h =
    let all : bits ≡ number_of (firsts s) 16 = f ∙ ap (number_of (firsts s)) e in
    let one : is_one bits (15 - i) ≡ firsts s i = ap (λ b. is_one b (15 - i)) all ∙ number_bit (firsts s) 16 i h in
    subst (λ b. SpellsBit s (6 + 2 * i) b) (sym one) (pairs i (omega (arith, e, h)))

-- a pair that is a bit is the one that its first half tells
pub pair_is : (s : List Sample) (i : ℕ) (b : Bool) → SpellsBit s (6 + 2 * i) b → SpellsBit s (6 + 2 * i) (firsts s i)
pair_is s i b h = subst (λ x. SpellsBit s (6 + 2 * i) x) (sym (first_is s (6 + 2 * i) b h)) h

-- samples that spell a word are guessed to be that word
pub guessed_is : (w : Word) (s : List Sample) → Spells w s → guessed s ≡ w
unfolding guessed
guessed_is w s h =
    let lead : (if is_plus (get_or s 0 Quiet) then Command else Datum) ≡ w.sync =
    ap (λ x. if is_plus x then Command else Datum) (h.sync 0 (omega arith)) ∙ sync_by_lead w.sync in
    let number : SpellsBits s (number_of (firsts s) 16) =
    bits_spelled s 16 (number_of (firsts s) 16) refl refl (λ i q. pair_is s i (is_one w.bits (15 - i)) (h.bits i q)) in
    let bits : number_of (firsts s) 16 ≡ w.bits =
    same_bits s (number_of (firsts s) 16) w.bits (number_below (firsts s) 16) h.in_range number h.bits in
    same_word w (if is_plus (get_or s 0 Quiet) then Command else Datum) (number_of (firsts s) 16) lead bits

-- bits and a further bit that together have an even number of ones are no word
pub even_is_none : (s : List Sample) (bits : ℕ) (further : Bool) → bits < 65536 → SpellsBits s bits → SpellsBit s 38 further →
    ((count_ones bits + (if further then 1 else 0)) % 2 ≡ 1 → ⊥) → (w : Word) → Spells w s → ⊥
even_is_none s bits further small h last even w k =
    let same : w.bits ≡ bits = same_bits s w.bits bits k.in_range small k.bits h in
    let one : k.further ≡ further = same_one s 38 k.further further k.parity last in
    even (subst (λ b. (count_ones bits + (if b then 1 else 0)) % 2 ≡ 1) one
    (subst (λ n. (count_ones n + (if k.further then 1 else 0)) % 2 ≡ 1) same k.odd))

-- what is guessed is in the range of sixteen bits
pub guessed_below : (s : List Sample) → (guessed s).bits < 65536
unfolding guessed
guessed_below s = number_below (firsts s) 16

-- the test of samples for being the same is right
same_sample_refl : (x : Sample) → same_sample x x ≡ true
same_sample_refl Plus = refl
same_sample_refl Minus = refl
same_sample_refl Quiet = refl

-- samples that are found the same are equal
same_sample_eq : (x y : Sample) → same_sample x y ≡ true → x ≡ y
same_sample_eq Plus Plus h = refl
same_sample_eq Plus Minus h = cc
same_sample_eq Plus Quiet h = cc
same_sample_eq Minus Plus h = cc
same_sample_eq Minus Minus h = refl
same_sample_eq Minus Quiet h = cc
same_sample_eq Quiet Plus h = cc
same_sample_eq Quiet Minus h = cc
same_sample_eq Quiet Quiet h = refl

-- so is the test of two lists
pub same_samples_refl : (xs : List Sample) → same_samples xs xs ≡ true
unfolding same_samples
same_samples_refl [] = refl
same_samples_refl (x ∷ xs) = rw (same_sample_refl x) (same_samples_refl xs)

-- so are lists of samples
pub same_samples_eq : (xs ys : List Sample) → same_samples xs ys ≡ true → xs ≡ ys
unfolding same_samples
same_samples_eq [] [] h = refl
same_samples_eq [] (y ∷ ys) h = cc
same_samples_eq (x ∷ xs) [] h = cc
same_samples_eq (x ∷ xs) (y ∷ ys) h =
    let both = and_parts (same_sample x y) (same_samples xs ys) h in
    let a : x ≡ y = same_sample_eq x y both.0 in
    let b : xs ≡ ys = same_samples_eq xs ys both.1 in
    cc

-- what is guessed is found where it is spelled, else nothing is
pub found : (s : List Sample) → s ≡ spelling (guessed s) → word_in s ≡ Some (guessed s)
unfolding word_in
found s e =
    let t : same_samples s (spelling (guessed s)) ≡ true = subst (λ x. same_samples s x ≡ true) e (same_samples_refl s) in
    rw t refl

-- where the guess is spelled otherwise, no word is found
pub not_found : (s : List Sample) → (s ≡ spelling (guessed s) → ⊥) → word_in s ≡ None
unfolding word_in
not_found s n =
    let t : same_samples s (spelling (guessed s)) ≡ false = false_from_ne_true _ (λ e. n (same_samples_eq s (spelling (guessed s)) e)) in
    rw t refl

-- what is guessed is the only word that the samples may spell
pub spells_guessed : (s : List Sample) → s ≡ spelling (guessed s) → Spells (guessed s) s
spells_guessed s e = subst (λ x. Spells (guessed s) x) (sym e) (spelling_spells (guessed s) (guessed_below s))

-- and no word spells the samples
pub none_spells : (s : List Sample) → (s ≡ spelling (guessed s) → ⊥) → (w : Word) → Spells w s → ⊥
none_spells s n w h = n (spells_only w s h ∙ ap spelling (sym (guessed_is w s h)))

-- the word that samples spell is found, and only that
pub word_in-spells : (s : List Sample) (w : Word) → Spells w s → word_in s ≡ Some w
word_in-spells s w h =
    let g : guessed s ≡ w = guessed_is w s h in
    found s (spells_only w s h ∙ ap spelling (sym g)) ∙ ap (λ v. Some v) g

-- what was read is what is found
pub word_in-read : (s : List Sample) (r : Option Word) →
    MatchOption r ((w : Word) → Spells w s → ⊥) (λ w. Spells w s) → r ≡ word_in s
word_in-read s None none = sym (not_found s (λ e. none (guessed s) (spells_guessed s e)))
word_in-read s (Some w) some = sym (word_in-spells s w some)

-- what is found is right
pub reads_word_in : (s : List Sample) → MatchOption (word_in s) ((w : Word) → Spells w s → ⊥) (λ w. Spells w s)
reads_word_in s = elim (cases_Bool (same_samples s (spelling (guessed s)))) [
  | inl e ↦ (
      let same : s ≡ spelling (guessed s) = same_samples_eq s (spelling (guessed s)) e in
      rw (found s same) (spells_guessed s same))
  | inr e ↦ (
      let other : s ≡ spelling (guessed s) → ⊥ = λ f. false≢true (sym e ∙ subst (λ x. same_samples s x ≡ true) f (same_samples_refl s)) in
      rw (not_found s other) (none_spells s other))
]

-- what is found is spelled
pub word_in-some : (s : List Sample) (w : Word) → word_in s ≡ Some w → Spells w s
word_in-some s w e = let read = reads_word_in s in rw e at read

-- nothing is found exactly where nothing is spelled
pub word_in-none : (s : List Sample) → word_in s ≡ None → (w : Word) → Spells w s → ⊥
word_in-none s e = let read = reads_word_in s in rw e at read

-- a word's spelling gives it back
pub word_in-spelling : (w : Word) → w.bits < 65536 → word_in (spelling w) ≡ Some w
word_in-spelling w h = word_in-spells (spelling w) w (spelling_spells w h)
