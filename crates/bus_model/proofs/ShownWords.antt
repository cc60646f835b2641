-- What is shown of a word, sample by sample.
use Rattle.std.proofs.Common.{◌≡◌, inl, inr, ℕ, ◌+◌, ◌*◌, ◌/◌, ◌%◌, ◌<◌, ◌≤◌, List, [], ◌∷◌, length, get_or, refl, sym, ◌∙◌, arith}
use Rattle.std.proofs.lemmas.List.FromFn.{length-map-range_with_len, get_or-map-range_with_len}
use Rattle.std.proofs.lemmas.List.{ext_get_or, get_or_past}
use Rattle.std.proofs.lemmas.Bool.{cases_lt, lt-leb}
use Rattle.bus_model.proofs.Options.{cases-option}
use Rattle.std.specs.Prelude.{◌≢◌, Bool, true, false, nat_le, if◌then◌else◌, Some, None}
use Rattle.bus_base.specs.Flips.{IsUndetectable, takes}
use Rattle.bus_base.specs.Samples.{exchanged}
use Rattle.bus_base.specs.declared.samples.Sample.{Sample}
use Rattle.bus_base.specs.declared.samples.Sample.TheVariants.{Quiet}
use Rattle.bus_words.specs.declared.word.Word.{Word}
use Rattle.bus_line.specs.Spelling.{Spells, spelled, spelling, word_in}
use Rattle.bus_line.specs.Damage.{IsFlipped, IsFaded}
use Rattle.bus_line.proofs.Noticed.{noticed, fades_noticed}
use Rattle.bus_line.proofs.Guessed.{word_in-some, word_in-spelling}
use Rattle.bus_line.proofs.Spelled.{spelling_at, length-spelling, spelling_spells}
use Rattle.bus_formats.specs.declared.fault.Hit.{Hit}
use Rattle.bus_formats.specs.declared.fault.Hit.TheVariants.{Flip, Cut, Extra, Fade}
use Rattle.bus_model.specs.Strikes.{strikes_at}
use Rattle.bus_model.specs.Wire.{hit_sample, struck_sample}
use Rattle.bus_model.specs.Noticed.{shown_word}

shown-long : (n : ℕ) (hits : List Hit) (word : Word) → length (shown_word n hits word) ≡ 40
unfolding shown_word
shown-long n hits word = length-map-range_with_len (λ p. struck_sample (40 * n + p) hits (spelled word p)) 0 40

shown-at : (n : ℕ) (hits : List Hit) (word : Word) (p : ℕ) → p < 40 → get_or (shown_word n hits word) p Quiet ≡ struck_sample (40 * n + p) hits (spelled word p)
unfolding shown_word
shown-at n hits word p h = get_or-map-range_with_len (λ q. struck_sample (40 * n + q) hits (spelled word q)) 0 40 p p Quiet h (omega arith)

-- a set strikes the samples of its word that it takes
strikes-own : (n p : ℕ) (set : List Bool) → p < 40 → strikes_at (40 * n + p) n set ≡ takes set p
strikes-own n p set h =
    let place : (40 * n + p) / 40 ≡ n = omega (arith, h) in
    let inner : (40 * n + p) % 40 ≡ p = omega (arith, h) in
    grind (arith, place, inner)

strikes-other : (n m p : ℕ) (set : List Bool) → p < 40 → m ≢ n → strikes_at (40 * n + p) m set ≡ false
strikes-other n m p set h other =
    let place : (40 * n + p) / 40 ≡ n = omega (arith, h) in
    grind (arith, place, other)

-- where the samples of a list end all is quiet
outside : (samples : List Sample) (p : ℕ) → length samples ≡ 40 → 40 ≤ p → get_or samples p Quiet ≡ Quiet
outside samples p long h = get_or_past samples p Quiet (omega (arith, long, h))

either-quiet : (b : Bool) → (if b then exchanged Quiet else Quiet) ≡ Quiet
either-quiet true = refl
either-quiet false = refl

quiet-both-ways : (b : Bool) → (if b then Quiet else Quiet) ≡ Quiet
quiet-both-ways true = refl
quiet-both-ways false = refl

-- what is shown of a flipped word, and of a faded one
flipped-shown : (n : ℕ) (set : List Bool) (word : Word) → IsFlipped set (spelling word) (shown_word n (Flip n set ∷ []) word)
flipped-shown n set word = record {
  as_long = shown-long n (Flip n set ∷ []) word ∙ sym (length-spelling word);
  each = λ p. elim (cases_lt p 40) [
    | inl h ↦ rw (shown-at n (Flip n set ∷ []) word p h, spelling_at word p h, strikes-own n p set h) refl
    | inr h ↦ rw (
      outside (shown_word n (Flip n set ∷ []) word) p (shown-long n (Flip n set ∷ []) word) h,
      outside (spelling word) p (length-spelling word) h,
    ) (sym (either-quiet (takes set p)))
  ];
}

faded-shown : (n : ℕ) (set : List Bool) (word : Word) → IsFaded set (spelling word) (shown_word n (Fade n set ∷ []) word)
faded-shown n set word = record {
  as_long = shown-long n (Fade n set ∷ []) word ∙ sym (length-spelling word);
  each = λ p. elim (cases_lt p 40) [
    | inl h ↦ rw (shown-at n (Fade n set ∷ []) word p h, spelling_at word p h, strikes-own n p set h) refl
    | inr h ↦ rw (
      outside (shown_word n (Fade n set ∷ []) word) p (shown-long n (Fade n set ∷ []) word) h,
      outside (spelling word) p (length-spelling word) h,
    ) (sym (quiet-both-ways (takes set p)))
  ];
}

-- samples that no word spells are read as none
spells-none : (samples : List Sample) → ((other : Word) → Spells other samples → ⊥) → word_in samples ≡ None
spells-none samples none = elim (cases-option (word_in samples)) [
  | inl h ↦ h
  | inr found ↦ absurd (none found.0 (word_in-some samples found.0 found.1))
]

pub flipped-none : (n : ℕ) (set : List Bool) (word : Word) → word.bits < 65536 → (IsUndetectable set → ⊥) →
    word_in (shown_word n (Flip n set ∷ []) word) ≡ None
flipped-none n set word fits detectable =
    spells-none _ (noticed set detectable word (spelling word) _ (spelling_spells word fits) (flipped-shown n set word))

pub faded-none : (n : ℕ) (set : List Bool) (p : ℕ) (word : Word) → word.bits < 65536 → p < 40 → takes set p ≡ true →
    word_in (shown_word n (Fade n set ∷ []) word) ≡ None
faded-none n set p word fits within taken =
    spells-none _ (fades_noticed set p within taken word (spelling word) _ (spelling_spells word fits) (faded-shown n set word))

-- a word none of whose samples is struck is shown as it is spelled
same-shown : (n : ℕ) (hits : List Hit) (word : Word) → ((p : ℕ) → p < 40 → struck_sample (40 * n + p) hits (spelled word p) ≡ spelled word p) →
    shown_word n hits word ≡ spelling word
same-shown n hits word h =
    ext_get_or Quiet (shown_word n hits word) (spelling word) (shown-long n hits word ∙ sym (length-spelling word))
    (λ p within. let below : p < 40 = omega (arith, within, shown-long n hits word) in
    shown-at n hits word p below ∙ (h p below ∙ sym (spelling_at word p below)))

same-word : (n : ℕ) (hits : List Hit) (word : Word) → word.bits < 65536 →
    ((p : ℕ) → p < 40 → struck_sample (40 * n + p) hits (spelled word p) ≡ spelled word p) → word_in (shown_word n hits word) ≡ Some word
same-word n hits word fits h = rw (same-shown n hits word h) (word_in-spelling word fits)

pub flip-stays : (n m : ℕ) (set : List Bool) (word : Word) → word.bits < 65536 → m ≢ n → word_in (shown_word n (Flip m set ∷ []) word) ≡ Some word
flip-stays n m set word fits other = same-word n (Flip m set ∷ []) word fits (λ p h. rw (strikes-other n m p set h other) refl)

pub fade-stays : (n m : ℕ) (set : List Bool) (word : Word) → word.bits < 65536 → m ≢ n → word_in (shown_word n (Fade m set ∷ []) word) ≡ Some word
fade-stays n m set word fits other = same-word n (Fade m set ∷ []) word fits (λ p h. rw (strikes-other n m p set h other) refl)

before-cut : (n after p : ℕ) (sample : Sample) → n < after → p < 40 → hit_sample (40 * n + p) (Cut after) sample ≡ sample
before-cut n after p sample h within =
    let later : nat_le (40 * after) (40 * n + p) ≡ false = lt-leb (40 * after) (40 * n + p) (omega (arith, h, within)) in
    rw later refl

pub cut-stays : (n after : ℕ) (word : Word) → word.bits < 65536 → n < after → word_in (shown_word n (Cut after ∷ []) word) ≡ Some word
cut-stays n after word fits h = same-word n (Cut after ∷ []) word fits (λ p within. before-cut n after p (spelled word p) h within)

pub extra-stays : (n more : ℕ) (word : Word) → word.bits < 65536 → word_in (shown_word n (Extra more ∷ []) word) ≡ Some word
extra-stays n more word fits = same-word n (Extra more ∷ []) word fits (λ p within. refl)
