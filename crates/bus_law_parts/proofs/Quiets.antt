-- Which samples of a part are quiet: those that a fade takes, and of four in a row never all.
use Rattle.std.proofs.Common.{◌≡◌, ◌⊎◌, inl, inr, ℕ, zero, suc, ◌+◌, ◌-◌, ◌*◌, ◌/◌, ◌%◌, ◌<◌, ◌≤◌, Bool, true, false, ◌==◌, List, [], ◌∷◌, length, Some, refl, sym, ap, ◌∙◌, arith}
use Rattle.std.proofs.Math.Bool.{or-false}
use Rattle.std.proofs.lemmas.Bool.{cases_Bool, cases_lt, lt-ltb, le-ltb, lt-leb, and_parts, and_right, or_from}
use Rattle.std.proofs.lemmas.Bool.Decides.{nat_tests}
use Rattle.std.specs.Prelude.{◌||◌, ◌&&◌, nat_lt, nat_le, if◌then◌else◌, min}
use Rattle.std.specs.List.{list_any}
use Rattle.bus_base.specs.Fades.{IsFade}
use Rattle.bus_base.specs.Positions.{IsWithin, names, takes, set_of}
use Rattle.bus_base.specs.Samples.{is_quiet, exchanged}
use Rattle.bus_base.specs.declared.samples.Part.{Part}
use Rattle.bus_base.specs.declared.samples.Sample.{Sample}
use Rattle.bus_base.specs.declared.samples.Sample.TheVariants.{Plus, Minus, Quiet}
use Rattle.bus_words.specs.declared.word.Word.{Word}
use Rattle.bus_line.specs.Past.{quiet}
use Rattle.bus_line.proofs.Heard.{is_quiet-spelling}
use Rattle.bus_line.proofs.TickLaws.{pulse-sample}
use Rattle.bus_formats.specs.Accepted.{word_struck}
use Rattle.bus_formats.specs.Forms.{data_word}
use Rattle.bus_formats.specs.declared.fault.Hit.{Hit}
use Rattle.bus_formats.specs.declared.fault.Hit.TheVariants.{Flip, Cut, Extra, Fade}
use Rattle.bus_model.specs.Strikes.{own_struck, strikes_at, fades_at}
use Rattle.bus_model.specs.Wire.{hit_sample, struck_sample}
use Rattle.bus_law_line.specs.Shown.{sample_of, first_samples}
use Rattle.bus_law_line.proofs.WordSlots.{heard-unstruck}
use Rattle.bus_law_parts.specs.Parts.{HitsFit, part_ticks, part_sample}
use Rattle.bus_law_parts.proofs.Strikes.{IsApartFrom, AreApart, AreRanged, Keeps, AreKeeping, apart-all, ranged-all, strikes-own, strikes-other, takes-named}
use Rattle.bus_law_parts.proofs.Lengths.{own-slot, whole-or-short, own-low}
use Rattle.bus_law_parts.proofs.PartSlots.{own-sample, added-sample}
use Rattle.bus_law_parts.proofs.Runs.{run_to, count_to, names-count, count-below, run-few, quiet-run}

-- ---- a sample that hits strike

flip-quiet : (b : Bool) (x : Sample) → is_quiet (if b then exchanged x else x) ≡ (is_quiet x || false)
flip-quiet true Plus = refl
flip-quiet true Minus = refl
flip-quiet true Quiet = refl
flip-quiet false Plus = refl
flip-quiet false Minus = refl
flip-quiet false Quiet = refl

fade-quiet : (b : Bool) (x : Sample) → is_quiet (if b then Quiet else x) ≡ (is_quiet x || b)
fade-quiet true Plus = refl
fade-quiet true Minus = refl
fade-quiet true Quiet = refl
fade-quiet false Plus = refl
fade-quiet false Minus = refl
fade-quiet false Quiet = refl

cut-later : (i after : ℕ) → i / 40 < after → nat_le (40 * after) i ≡ false
cut-later i after before = lt-leb (40 * after) i (omega (arith, before))

hit-quiets : (i : ℕ) (hit : Hit) (x : Sample) → Keeps (i / 40) hit → is_quiet (hit_sample i hit x) ≡ (is_quiet x || fades_at i hit)
hit-quiets i (Flip word set) x keeps = flip-quiet (strikes_at i word set) x
hit-quiets i (Fade word set) x keeps = fade-quiet (strikes_at i word set) x
hit-quiets i (Cut after) x keeps =
    ap (λ (b : Bool). is_quiet (if b then Quiet else x)) (cut-later i after keeps) ∙ sym (or-false (is_quiet x))
hit-quiets i (Extra words) x keeps = sym (or-false (is_quiet x))

or-nested : (a b c : Bool) → ((a || b) || c) ≡ (a || (b || c))
or-nested true b c = refl
or-nested false b c = refl

struck-quiets : (i : ℕ) (hits : List Hit) (x : Sample) → AreKeeping (i / 40) hits →
    is_quiet (struck_sample i hits x) ≡ (is_quiet x || list_any (fades_at i) hits)
struck-quiets i [] x keeps = sym (or-false (is_quiet x))
struck-quiets i (hit ∷ hits) x keeps =
    struck-quiets i hits (hit_sample i hit x) keeps.1
    ∙ ap (λ b. b || list_any (fades_at i) hits) (hit-quiets i hit x keeps.0)
    ∙ or-nested (is_quiet x) (fades_at i hit) (list_any (fades_at i) hits)

-- ---- the samples of a part

-- the sample of the own words at this place is faded
abbrev pub is_own_faded : List Hit → List Word → ℕ → Bool
is_own_faded hits words i = nat_lt i (40 * length words) && list_any (fades_at i) hits

heard-own : (words : List Word) (i : ℕ) → i < 40 * length words → is_quiet (sample_of words i) ≡ false
heard-own words i low = pulse-sample (sample_of words i) (heard-unstruck words i low)

own-quiets : (hits : List Hit) (words : List Word) (i : ℕ) → i < 40 * length (own_struck hits words) →
    is_quiet (part_sample hits words i) ≡ is_own_faded hits words i
own-quiets hits words i low =
    let slot = own-slot hits words (i / 40) (omega (arith, low)) in
    let few = own-low hits words in
    let inside : i < 40 * length words = omega (arith, low, few) in
    let test : nat_lt i (40 * length words) ≡ true = lt-ltb i (40 * length words) inside in
    ap is_quiet (own-sample hits words i low)
    ∙ struck-quiets i hits (sample_of words i) slot.keeps
    ∙ ap (λ b. b || list_any (fades_at i) hits) (heard-own words i inside)
    ∙ sym (ap (λ b. b && list_any (fades_at i) hits) test)

added-quiets : (part : Part) (hits : List Hit) (words : List Word) (i : ℕ) → HitsFit part hits words →
    40 * length (own_struck hits words) ≤ i → i < part_ticks hits words → is_quiet (part_sample hits words i) ≡ is_own_faded hits words i
added-quiets part hits words i fits from low = elim (whole-or-short part hits words fits) [
  | inl whole ↦ (
      let own = whole.own in
      let past : nat_lt i (40 * length words) ≡ false = le-ltb i (40 * length words) (omega (arith, from, own)) in
      ap is_quiet (added-sample hits words i from low) ∙ is_quiet-spelling (data_word 0) (i % 40) (omega arith)
      ∙ sym (ap (λ b. b && list_any (fades_at i) hits) past))
  | inr short ↦ (let own = short.1.own in let ticks = short.1.ticks in absurd (omega (arith, from, low, own, ticks)))
]

-- a sample that is shown of a part is quiet just where it is faded
pub part-quiets : (part : Part) (hits : List Hit) (words : List Word) (i : ℕ) → HitsFit part hits words → i < part_ticks hits words →
    is_quiet (part_sample hits words i) ≡ is_own_faded hits words i
part-quiets part hits words i fits low = elim (cases_lt i (40 * length (own_struck hits words))) [
  | inl own ↦ own-quiets hits words i own
  | inr past ↦ added-quiets part hits words i fits past low
]

-- ---- the fades of one word

-- in word n a fade takes the samples at these positions, and nothing else is faded
record IsFadedAt (n : ℕ) (hits : List Hit) (positions : List ℕ) : Type 0 where
  few : length positions ≤ 3
  within : IsWithin 3 38 positions
  faded : (p : ℕ) → p < 40 → list_any (fades_at (40 * n + p)) hits ≡ names positions p

no-fade : (n p : ℕ) (hit : Hit) (hits : List Hit) → p < 40 → word_struck hit ≡ Some n → IsApartFrom hit hits → list_any (fades_at (40 * n + p)) hits ≡ false
no-fade n p hit [] low own apart = refl
no-fade n p hit (Flip word set ∷ hits) low own apart = no-fade n p hit hits low own apart.1
no-fade n p hit (Cut after ∷ hits) low own apart = no-fade n p hit hits low own apart.1
no-fade n p hit (Extra words ∷ hits) low own apart = no-fade n p hit hits low own apart.1
no-fade n p hit (Fade word set ∷ hits) low own apart = elim (cases_Bool (word == n)) [
  | inl same ↦ absurd (apart.0 (own ∙ ap Some (grind (arith, nat_tests, same))))
  | inr other ↦ rw (strikes-other n word p set low other) (no-fade n p hit hits low own apart.1)
]

fade-here : (n word : ℕ) (set : List Bool) (positions : List ℕ) (hits : List Hit) → word ≡ n → IsFade positions → set ≡ set_of positions →
    IsApartFrom (Fade word set) hits → IsFadedAt n (Fade word set ∷ hits) positions
fade-here n word set positions hits same fade is apart = record {
  few = fade.few;
  within = fade.within;
  faded = λ p low. (
      ap (λ w. strikes_at (40 * n + p) w set || list_any (fades_at (40 * n + p)) hits) same
      ∙ ap (λ b. strikes_at (40 * n + p) n set || b) (no-fade n p (Fade word set) hits low (ap Some same) apart)
      ∙ or-false (strikes_at (40 * n + p) n set)
      ∙ strikes-own n p set low
      ∙ ap (λ s. takes s p) is
      ∙ takes-named positions p low
      );
}

fades-nothing : (n : ℕ) → IsFadedAt n [] []
unfolding names
fades-nothing n = record { few = omega arith; within = λ i low. absurd (omega (arith, low)); faded = λ p low. refl }

passes-on : (n : ℕ) (hit : Hit) (hits : List Hit) (positions : List ℕ) → ((p : ℕ) → p < 40 → fades_at (40 * n + p) hit ≡ false) →
    IsFadedAt n hits positions → IsFadedAt n (hit ∷ hits) positions
passes-on n hit hits positions other rest = record {
  few = rest.few;
  within = rest.within;
  faded = λ p low. rw (other p low) (rest.faded p low);
}

faded-at : (part : Part) (n : ℕ) (hits : List Hit) → AreApart hits → AreRanged part hits → (positions : List ℕ) × IsFadedAt n hits positions
faded-at part n [] apart ranged = ([], fades-nothing n)
faded-at part n (Flip word set ∷ hits) apart ranged =
    let rest = faded-at part n hits apart.1 ranged.1 in (rest.0, passes-on n (Flip word set) hits rest.0 (λ p low. refl) rest.1)
faded-at part n (Cut after ∷ hits) apart ranged =
    let rest = faded-at part n hits apart.1 ranged.1 in (rest.0, passes-on n (Cut after) hits rest.0 (λ p low. refl) rest.1)
faded-at part n (Extra words ∷ hits) apart ranged =
    let rest = faded-at part n hits apart.1 ranged.1 in (rest.0, passes-on n (Extra words) hits rest.0 (λ p low. refl) rest.1)
faded-at part n (Fade word set ∷ hits) apart ranged = elim (cases_Bool (word == n)) [
  | inl same ↦ (ranged.0.1.0, fade-here n word set ranged.0.1.0 hits (grind (arith, nat_tests, same)) ranged.0.1.1 ranged.0.1.2 apart.0)
  | inr other ↦ (
      let rest = faded-at part n hits apart.1 ranged.1 in
      (rest.0, passes-on n (Fade word set) hits rest.0 (λ p low. strikes-other n word p set low other) rest.1))
]

-- a list within these bounds names nothing outside of them
names-outside : (positions : List ℕ) (p : ℕ) → IsWithin 3 38 positions → (p < 3) ⊎ (38 < p) → names positions p ≡ false
unfolding names
names-outside [] p within out = refl
names-outside (q ∷ positions) p within out =
    let here = within 0 (omega arith) in
    or_from (q == p) (names positions p) (apart out here.0 here.1)
    (names-outside positions p (λ i low. within (suc i) (omega (arith, low))) out)
  where
    apart : (p < 3) ⊎ (38 < p) → 3 ≤ q → q ≤ 38 → (q == p) ≡ false
    apart (inl low) from to = grind (arith, nat_tests, low, from)
    apart (inr high) from to = grind (arith, nat_tests, high, to)

-- ---- runs of faded samples

module _ (part : Part) (hits : List Hit) (words : List Word) (fits : HitsFit part hits words) where
  fade-of : (n : ℕ) → (positions : List ℕ) × IsFadedAt n hits positions
  fade-of n = faded-at part n hits (apart-all hits fits.apart) (ranged-all part hits fits.ranges)

  -- the first three samples of a word and its last are never faded
  pub bare-at : (n p : ℕ) → p < 40 → (p < 3) ⊎ (38 < p) → is_own_faded hits words (40 * n + p) ≡ false
  bare-at n p low out =
      let fade = fade-of n in
      let none : list_any (fades_at (40 * n + p)) hits ≡ false = fade.1.faded p low ∙ names-outside fade.0 p fade.1.within out in
      and_right (nat_lt (40 * n + p) (40 * length words)) (list_any (fades_at (40 * n + p)) hits) none

  -- so no run goes on from one word into the next
  pub run-words : (n : ℕ) → run_to (is_own_faded hits words) (40 * n) ≡ 0
  run-words zero = refl
  run-words (suc n) =
      let at : 40 * suc n ≡ suc (40 * n + 39) = omega arith in
      let bare : is_own_faded hits words (40 * n + 39) ≡ false = bare-at n 39 (omega arith) (inr (omega arith)) in
      rw (at, bare) refl

  -- and a run is no longer than the word's fade, nor than the word so far
  pub run-short : (m : ℕ) → run_to (is_own_faded hits words) m ≤ min 3 (m % 40 - 1)
  run-short m =
      let at : m ≡ 40 * (m / 40) + m % 40 = omega arith in
      let fade = fade-of (m / 40) in
      let run : run_to (is_own_faded hits words) (40 * (m / 40) + m % 40) ≤ count_to (names fade.0) (m % 40) =
      run-few (is_own_faded hits words) (names fade.0) (40 * (m / 40)) (m % 40) (run-words (m / 40))
      (λ j low faded. sym (fade.1.faded j (omega (arith, low)))
      ∙ (and_parts (nat_lt (40 * (m / 40) + j) (40 * length words)) (list_any (fades_at (40 * (m / 40) + j)) hits) faded).1) in
      let few : count_to (names fade.0) (m % 40) ≤ length fade.0 = names-count fade.0 (m % 40) in
      let three : length fade.0 ≤ 3 = fade.1.few in
      let bare : names fade.0 0 ≡ false = names-outside fade.0 0 fade.1.within (inl (omega arith)) in
      let below : count_to (names fade.0) (m % 40) ≤ m % 40 - 1 = below-all (names fade.0) (m % 40) bare in
      let same : run_to (is_own_faded hits words) m ≡ run_to (is_own_faded hits words) (40 * (m / 40) + m % 40) = ap (run_to (is_own_faded hits words)) at in
      omega (arith, run, few, three, below, same)
    where
      below-all : (f : ℕ → Bool) (r : ℕ) → f 0 ≡ false → count_to f r ≤ r - 1
      below-all f zero bare = omega arith
      below-all f (suc r) bare = let low : count_to f (suc r) ≤ r = count-below f r bare in omega (arith, low)

  -- the quiet samples in a row up to some place of the part
  pub quiet-part : (m : ℕ) → m ≤ part_ticks hits words → quiet (first_samples (part_sample hits words) m) ≡ run_to (is_own_faded hits words) m
  quiet-part m within =
      quiet-run (part_sample hits words) (is_own_faded hits words) m (λ i low. part-quiets part hits words i fits (omega (arith, low, within)))
