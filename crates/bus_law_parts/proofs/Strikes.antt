-- What the hits of a part do to one word of it: where they fit, at most one of them strikes it.
use Rattle.std.proofs.Common.{◌≡◌, ◌≢◌, ◌⊎◌, inl, inr, ℕ, zero, suc, ◌+◌, ◌*◌, ◌/◌, ◌%◌, ◌<◌, ◌≤◌, Bool, true, false, ◌==◌, List, [], ◌∷◌, length, get_or, map, Option, Some, None, refl, sym, ap, ◌∙◌, subst, arith}
use Rattle.std.proofs.lemmas.Bool.{cases_Bool, cases_lt, lt-leb, or_parts}
use Rattle.std.proofs.lemmas.Bool.Decides.{nat_tests}
use Rattle.std.proofs.lemmas.List.{get_or_past}
use Rattle.std.proofs.lemmas.List.FromFn.{length-map-range_with_len, get_or-map-range_with_len}
use Rattle.std.proofs.lemmas.List.Folds.{list_any_at}
use Rattle.std.specs.Prelude.{nat_le, if◌then◌else◌}
use Rattle.std.specs.List.{All, AllPairs, list_any, range_with_len}
use Rattle.bus_base.specs.Flips.{IsUndetectable, takes, names, set_of}
use Rattle.bus_base.specs.Samples.{exchanged}
use Rattle.bus_base.specs.declared.samples.Part.{Part}
use Rattle.bus_base.specs.declared.samples.Sample.{Sample}
use Rattle.bus_base.specs.declared.samples.Sample.TheVariants.{Quiet}
use Rattle.bus_words.specs.declared.word.Word.{Word}
use Rattle.bus_line.specs.Damage.{IsFlipped, IsFaded}
use Rattle.bus_line.specs.Spelling.{Spells, spelled, spelling, word_in}
use Rattle.bus_line.proofs.Guessed.{word_in-some, word_in-spelling}
use Rattle.bus_line.proofs.Noticed.{noticed, fades_noticed}
use Rattle.bus_line.proofs.Spelled.{spelling_at, length-spelling, spelling_spells}
use Rattle.bus_formats.specs.Accepted.{HasHitRanges, word_struck}
use Rattle.bus_formats.specs.declared.fault.Hit.{Hit}
use Rattle.bus_formats.specs.declared.fault.Hit.TheVariants.{Flip, Cut, Extra, Fade}
use Rattle.bus_model.specs.Noticed.{shown_word}
use Rattle.bus_model.specs.Strikes.{spoils, strikes_at}
use Rattle.bus_model.specs.Wire.{hit_sample, struck_sample}

-- ---- hits that fit, hit by hit

-- no hit of these strikes what this one strikes
abbrev pub IsApartFrom : Hit → List Hit → Type 0
IsApartFrom hit [] = Unit {0}
IsApartFrom hit (other ∷ hits) = (word_struck hit ≢ word_struck other) × IsApartFrom hit hits

-- no two of these strike the same
abbrev pub AreApart : List Hit → Type 0
AreApart [] = Unit {0}
AreApart (hit ∷ hits) = IsApartFrom hit hits × AreApart hits

-- each has its ranges
abbrev pub AreRanged : Part → List Hit → Type 0
AreRanged part [] = Unit {0}
AreRanged part (hit ∷ hits) = HasHitRanges part hit × AreRanged part hits

apart-from : (hit : Hit) (hits : List Hit) → All (λ other. word_struck hit ≢ word_struck other) hits → IsApartFrom hit hits
apart-from hit [] all = tt
apart-from hit (other ∷ hits) all = (all 0 other (omega arith), apart-from hit hits (λ i d low. all (suc i) d (omega (arith, low))))

pub apart-all : (hits : List Hit) → AllPairs (λ a b. word_struck a ≢ word_struck b) hits → AreApart hits
apart-all [] all = tt
apart-all (hit ∷ hits) all = (
  apart-from hit hits (λ i d low. all 0 (suc i) d (omega arith) (omega (arith, low))),
  apart-all hits (λ i j d low high. all (suc i) (suc j) d (omega (arith, low)) (omega (arith, high))),
)

pub ranged-all : (part : Part) (hits : List Hit) → All (HasHitRanges part) hits → AreRanged part hits
ranged-all part [] all = tt
ranged-all part (hit ∷ hits) all = (all 0 hit (omega arith), ranged-all part hits (λ i d low. all (suc i) d (omega (arith, low))))

-- word n comes before the cut
abbrev pub Keeps : ℕ → Hit → Type 0
Keeps n (Flip word set) = Unit {0}
Keeps n (Fade word set) = Unit {0}
Keeps n (Cut after) = n < after
Keeps n (Extra words) = Unit {0}

-- before each cut of these
abbrev pub AreKeeping : ℕ → List Hit → Type 0
AreKeeping n [] = Unit {0}
AreKeeping n (hit ∷ hits) = Keeps n hit × AreKeeping n hits

-- ---- a hit of another word leaves a sample

pub strikes-own : (n p : ℕ) (set : List Bool) → p < 40 → strikes_at (40 * n + p) n set ≡ takes set p
strikes-own n p set h =
    let place : (40 * n + p) / 40 ≡ n = omega (arith, h) in
    let inner : (40 * n + p) % 40 ≡ p = omega (arith, h) in
    grind (arith, place, inner)

pub strikes-other : (n m p : ℕ) (set : List Bool) → p < 40 → (m == n) ≡ false → strikes_at (40 * n + p) m set ≡ false
strikes-other n m p set h other =
    let place : (40 * n + p) / 40 ≡ n = omega (arith, h) in
    let apart : (n == m) ≡ false = grind (arith, nat_tests, other) in
    rw (place, apart) refl

hit-stays : (n p : ℕ) (hit : Hit) (x : Sample) → p < 40 → Keeps n hit → spoils n hit ≡ false → hit_sample (40 * n + p) hit x ≡ x
hit-stays n p (Flip word set) x h keeps other = rw (strikes-other n word p set h other) refl
hit-stays n p (Fade word set) x h keeps other = rw (strikes-other n word p set h other) refl
hit-stays n p (Cut after) x h keeps other =
    let later : nat_le (40 * after) (40 * n + p) ≡ false = lt-leb (40 * after) (40 * n + p) (omega (arith, h, keeps)) in
    rw later refl
hit-stays n p (Extra words) x h keeps other = refl

struck-stays : (n p : ℕ) (hits : List Hit) (x : Sample) → p < 40 → AreKeeping n hits → list_any (spoils n) hits ≡ false →
    struck_sample (40 * n + p) hits x ≡ x
struck-stays n p [] x h keeps none = refl
struck-stays n p (hit ∷ hits) x h keeps none =
    let parts = or_parts (spoils n hit) (list_any (spoils n) hits) none in
    ap (struck_sample (40 * n + p) hits) (hit-stays n p hit x h keeps.0 parts.0) ∙ struck-stays n p hits x h keeps.1 parts.1

-- ---- the one hit that strikes a word

spoils-word : (n : ℕ) (hit : Hit) → spoils n hit ≡ true → word_struck hit ≡ Some n
spoils-word n (Flip word set) e = ap Some (grind (arith, nat_tests, e))
spoils-word n (Fade word set) e = ap Some (grind (arith, nat_tests, e))
spoils-word n (Cut after) e = absurd (grind (arith, e))
spoils-word n (Extra words) e = absurd (grind (arith, e))

-- beside it no other does
no-other : (n : ℕ) (hit : Hit) (hits : List Hit) → spoils n hit ≡ true → IsApartFrom hit hits → list_any (spoils n) hits ≡ false
no-other n hit [] own apart = refl
no-other n hit (other ∷ hits) own apart = elim (cases_Bool (spoils n other)) [
  | inl also ↦ absurd (apart.0 (spoils-word n hit own ∙ sym (spoils-word n other also)))
  | inr not ↦ rw not (no-other n hit hits own apart.1)
]

-- of these hits this one alone strikes word n
pub record IsStruckBy (part : Part) (n : ℕ) (hits : List Hit) (hit : Hit) : Type 0 where
  pub spoils_it : spoils n hit ≡ true
  pub ranges : HasHitRanges part hit
  pub alone : (p : ℕ) (x : Sample) → p < 40 → struck_sample (40 * n + p) hits x ≡ hit_sample (40 * n + p) hit x

struck-by : (part : Part) (n : ℕ) (hits : List Hit) → AreApart hits → AreRanged part hits → AreKeeping n hits → list_any (spoils n) hits ≡ true →
    (hit : Hit) × IsStruckBy part n hits hit
struck-by part n [] apart ranged keeps some = absurd (grind (arith, some))
struck-by part n (hit ∷ hits) apart ranged keeps some = elim (cases_Bool (spoils n hit)) [
  | inl own ↦ (
    hit,
    record {
      spoils_it = own;
      ranges = ranged.0;
      alone = λ p x h. struck-stays n p hits (hit_sample (40 * n + p) hit x) h keeps.1 (no-other n hit hits own apart.0);
    },
  )
  | inr other ↦ (
      let rest : list_any (spoils n) hits ≡ true = rw other at some in
      let found = struck-by part n hits apart.1 ranged.1 keeps.1 rest in (
        found.0,
        record {
          spoils_it = found.1.spoils_it;
          ranges = found.1.ranges;
          alone = λ p x h. ap (struck_sample (40 * n + p) hits) (hit-stays n p hit x h keeps.0 other) ∙ found.1.alone p x h;
        },
      ))
]

-- ---- what is shown of a word

shown-long : (n : ℕ) (hits : List Hit) (word : Word) → length (shown_word n hits word) ≡ 40
unfolding shown_word
shown-long n hits word = length-map-range_with_len (λ p. struck_sample (40 * n + p) hits (spelled word p)) 0 40

shown-at : (n : ℕ) (hits : List Hit) (word : Word) (p : ℕ) → p < 40 → get_or (shown_word n hits word) p Quiet ≡ struck_sample (40 * n + p) hits (spelled word p)
unfolding shown_word
shown-at n hits word p h = get_or-map-range_with_len (λ q. struck_sample (40 * n + q) hits (spelled word q)) 0 40 p p Quiet h (omega arith)

quiet-past : (samples : List Sample) (p : ℕ) → length samples ≡ 40 → 40 ≤ p → get_or samples p Quiet ≡ Quiet
quiet-past samples p long h = get_or_past samples p Quiet (omega (arith, long, h))

pub exchanged-either : (b : Bool) → (if b then exchanged Quiet else Quiet) ≡ Quiet
exchanged-either true = refl
exchanged-either false = refl

pub quiet-either : (b : Bool) → (if b then Quiet else Quiet) ≡ Quiet
quiet-either true = refl
quiet-either false = refl

module _ (n : ℕ) (hits : List Hit) (set : List Bool) (word : Word) where
  flipped-shown : ((p : ℕ) (x : Sample) → p < 40 → struck_sample (40 * n + p) hits x ≡ hit_sample (40 * n + p) (Flip n set) x) →
      IsFlipped set (spelling word) (shown_word n hits word)
  flipped-shown alone = record {
    as_long = shown-long n hits word ∙ sym (length-spelling word);
    each = λ p. elim (cases_lt p 40) [
      | inl h ↦ (shown-at n hits word p h ∙ alone p (spelled word p) h ∙ (rw (strikes-own n p set h, spelling_at word p h) refl))
      | inr h ↦ rw (quiet-past (shown_word n hits word) p (shown-long n hits word) h, quiet-past (spelling word) p (length-spelling word) h)
          (sym (exchanged-either (takes set p)))
    ];
  }

  faded-shown : ((p : ℕ) (x : Sample) → p < 40 → struck_sample (40 * n + p) hits x ≡ hit_sample (40 * n + p) (Fade n set) x) →
      IsFaded set (spelling word) (shown_word n hits word)
  faded-shown alone = record {
    as_long = shown-long n hits word ∙ sym (length-spelling word);
    each = λ p. elim (cases_lt p 40) [
      | inl h ↦ (shown-at n hits word p h ∙ alone p (spelled word p) h ∙ (rw (strikes-own n p set h, spelling_at word p h) refl))
      | inr h ↦ rw (quiet-past (shown_word n hits word) p (shown-long n hits word) h, quiet-past (spelling word) p (length-spelling word) h)
          (sym (quiet-either (takes set p)))
    ];
  }

-- ---- what is read

cases-option : {X : Type 0} (o : Option X) → (o ≡ None) ⊎ ((a : X) × (o ≡ Some a))
cases-option None = inl refl
cases-option (Some a) = inr (a, refl)

spells-none : (samples : List Sample) → ((other : Word) → Spells other samples → ⊥) → word_in samples ≡ None
spells-none samples none = elim (cases-option (word_in samples)) [
  | inl h ↦ h
  | inr found ↦ absurd (none found.0 (word_in-some samples found.0 found.1))
]

-- a set takes the positions of its list
pub takes-named : (positions : List ℕ) (p : ℕ) → p < 40 → takes (set_of positions) p ≡ names positions p
unfolding set_of
takes-named positions p h = get_or-map-range_with_len (names positions) 0 40 p p false h (omega arith)

pub named-at : (positions : List ℕ) (i p : ℕ) → i < length positions → get_or positions i 0 ≡ p → names positions p ≡ true
unfolding names
named-at positions i p low e =
    let same : (get_or positions i 0 == p) ≡ true = grind (arith, nat_tests, e) in
    list_any_at (λ q. q == p) positions i 0 low same

some-position : (positions : List ℕ) → positions ≢ [] → 0 < length positions
some-position [] some = absurd (some refl)
some-position (p ∷ positions) some = omega arith

-- a word that a hit strikes spells none
by-hit : (part : Part) (n : ℕ) (hits : List Hit) (word : Word) (hit : Hit) → word.bits < 65536 → IsStruckBy part n hits hit →
    word_in (shown_word n hits word) ≡ None
by-hit part n hits word (Flip m set) fits by =
    let same : m ≡ n = grind (arith, nat_tests, by.spoils_it) in
    let detectable : IsUndetectable set → ⊥ = λ blind. by.ranges.1.1.detectable (subst IsUndetectable by.ranges.1.2 blind) in
    spells-none (shown_word n hits word) (noticed set detectable word (spelling word) (shown_word n hits word) (spelling_spells word fits)
    (flipped-shown n hits set word (λ p x h. by.alone p x h ∙ ap (λ w. hit_sample (40 * n + p) (Flip w set) x) same)))
by-hit part n hits word (Fade m set) fits by =
    let same : m ≡ n = grind (arith, nat_tests, by.spoils_it) in
    let positions = by.ranges.1.0 in
    let fade = by.ranges.1.1 in
    let some : 0 < length positions = some-position positions fade.some in
    let p = get_or positions 0 0 in
    let within = fade.within 0 some in
    let low : p < 40 = omega (arith, within.1) in
    let taken : takes set p ≡ true = ap (λ s. takes s p) by.ranges.1.2 ∙ takes-named positions p low ∙ named-at positions 0 p some refl in
    spells-none (shown_word n hits word) (fades_noticed set p low taken word (spelling word) (shown_word n hits word) (spelling_spells word fits)
    (faded-shown n hits set word (λ p x h. by.alone p x h ∙ ap (λ w. hit_sample (40 * n + p) (Fade w set) x) same)))
by-hit part n hits word (Cut after) fits by = absurd (grind (arith, by.spoils_it))
by-hit part n hits word (Extra words) fits by = absurd (grind (arith, by.spoils_it))

pub same-table : (f g : ℕ → Sample) (a n : ℕ) → ((i : ℕ) → a ≤ i → i < a + n → f i ≡ g i) → map f (range_with_len a n) ≡ map g (range_with_len a n)
same-table f g a zero same = refl
same-table f g a (suc n) same =
    rw (same a (omega arith) (omega arith), same-table f g (a + 1) n (λ i low high. same i (omega (arith, low)) (omega (arith, high)))) refl

-- one that none strikes is shown as it is spelled
unstruck-word : (n : ℕ) (hits : List Hit) (word : Word) → AreKeeping n hits → list_any (spoils n) hits ≡ false → shown_word n hits word ≡ spelling word
unfolding shown_word spelling
unstruck-word n hits word keeps none =
    same-table (λ p. struck_sample (40 * n + p) hits (spelled word p)) (spelled word) 0 40
    (λ p low high. struck-stays n p hits (spelled word p) (omega (arith, high)) keeps none)

-- a word before the cut is read as itself where no hit strikes it, and else as none
pub word-read : (part : Part) (n : ℕ) (hits : List Hit) (word : Word) → word.bits < 65536 → AreApart hits → AreRanged part hits → AreKeeping n hits →
    word_in (shown_word n hits word) ≡ (if list_any (spoils n) hits then None else Some word)
word-read part n hits word fits apart ranged keeps = elim (cases_Bool (list_any (spoils n) hits)) [
  | inl some ↦ (let by = struck-by part n hits apart ranged keeps some in rw some (by-hit part n hits word by.0 fits by.1))
  | inr none ↦ rw none (ap word_in (unstruck-word n hits word keeps none) ∙ word_in-spelling word fits)
]
