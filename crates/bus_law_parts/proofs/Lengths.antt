-- How long a part is: whole, and perhaps longer by an extra; or cut short, and then no extra follows.
use Rattle.std.proofs.Common.{◌≡◌, ◌⊎◌, inl, inr, ℕ, zero, suc, ◌+◌, ◌-◌, ◌*◌, ◌<◌, ◌≤◌, Bool, true, false, ◌==◌, List, [], ◌∷◌, ◌++◌, length, take, Option, Some, None, refl, ap, ◌∙◌, arith, length-append}
use Rattle.std.proofs.Math.Bool.{or-false}
use Rattle.std.proofs.lemmas.Bool.{le-leb, cases_lt}
use Rattle.std.proofs.lemmas.Bool.Decides.{nat_tests}
use Rattle.std.proofs.lemmas.List.{length-take, length-replicate}
use Rattle.std.proofs.lemmas.Option.{slice_get_within}
use Rattle.std.specs.Prelude.{min, nat_le, if◌then◌else◌, replicate, slice_get}
use Rattle.std.specs.List.{list_any}
use Rattle.bus_base.specs.declared.samples.Part.{Part}
use Rattle.bus_base.specs.declared.samples.Sample.{Sample}
use Rattle.bus_base.specs.declared.samples.Sample.TheVariants.{Quiet}
use Rattle.bus_words.specs.declared.word.Word.{Word}
use Rattle.bus_formats.specs.Accepted.{least_cut, word_struck}
use Rattle.bus_formats.specs.Forms.{data_word}
use Rattle.bus_formats.specs.declared.fault.Hit.{Hit}
use Rattle.bus_formats.specs.declared.fault.Hit.TheVariants.{Flip, Cut, Extra, Fade}
use Rattle.bus_model.specs.Strikes.{spoils, spoiled, cut_by, added_by, own_struck, struck, strikes_at}
use Rattle.bus_model.specs.Transmissions.{cut_over}
use Rattle.bus_model.specs.Wire.{hit_sample, struck_sample}
use Rattle.bus_law_parts.specs.Parts.{HitsFit}
use Rattle.bus_law_parts.proofs.Strikes.{IsApartFrom, AreApart, AreRanged, AreKeeping, apart-all, ranged-all, exchanged-either, quiet-either}

-- ---- the hit that cuts a part, if one does

-- none of these hits cuts the part
pub record IsUncut (hits : List Hit) : Type 0 where
  slots : (slots : List (Option Word)) → cut_by hits slots ≡ slots
  over : (i : ℕ) → list_any (cut_over i) hits ≡ false

-- one of them cuts it after so many words, and none adds any
record IsCut (part : Part) (hits : List Hit) (after : ℕ) : Type 0 where
  least : least_cut part ≤ after
  added : added_by hits ≡ 0
  slots : (slots : List (Option Word)) → cut_by hits slots ≡ take after slots
  over : (i : ℕ) → list_any (cut_over i) hits ≡ (i == 40 * after + 4)
  quiet : (i : ℕ) (x : Sample) → 40 * after ≤ i → struck_sample i hits x ≡ Quiet

-- what is quiet stays so
hit-quiet : (i : ℕ) (hit : Hit) → hit_sample i hit Quiet ≡ Quiet
hit-quiet i (Flip word set) = exchanged-either (strikes_at i word set)
hit-quiet i (Fade word set) = quiet-either (strikes_at i word set)
hit-quiet i (Cut after) = quiet-either (nat_le (40 * after) i)
hit-quiet i (Extra words) = refl

pub struck-quiet : (i : ℕ) (hits : List Hit) → struck_sample i hits Quiet ≡ Quiet
struck-quiet i [] = refl
struck-quiet i (hit ∷ hits) = ap (struck_sample i hits) (hit-quiet i hit) ∙ struck-quiet i hits

-- beside a hit that strikes the length no other does
pub no-length : (hit : Hit) (hits : List Hit) → word_struck hit ≡ None → IsApartFrom hit hits → IsUncut hits × (added_by hits ≡ 0)
no-length hit [] none apart = (record { slots = λ slots. refl; over = λ i. refl }, refl)
no-length hit (Flip word set ∷ hits) none apart =
    let rest = no-length hit hits none apart.1 in (record { slots = rest.0.slots; over = rest.0.over }, rest.1)
no-length hit (Fade word set ∷ hits) none apart =
    let rest = no-length hit hits none apart.1 in (record { slots = rest.0.slots; over = rest.0.over }, rest.1)
no-length hit (Cut after ∷ hits) none apart = absurd (apart.0 none)
no-length hit (Extra words ∷ hits) none apart = absurd (apart.0 none)

passed-on : (part : Part) (hit : Hit) (hits : List Hit) → ((slots : List (Option Word)) → cut_by (hit ∷ hits) slots ≡ cut_by hits slots) →
    ((i : ℕ) → cut_over i hit ≡ false) → added_by (hit ∷ hits) ≡ added_by hits →
    IsUncut hits ⊎ ((after : ℕ) × IsCut part hits after) → IsUncut (hit ∷ hits) ⊎ ((after : ℕ) × IsCut part (hit ∷ hits) after)
passed-on part hit hits slots over added (inl uncut) = inl record {
  slots = λ s. slots s ∙ uncut.slots s;
  over = λ i. rw (over i) (uncut.over i);
}
passed-on part hit hits slots over added (inr found) = inr (
  found.0,
  record {
    least = found.1.least;
    added = added ∙ found.1.added;
    slots = λ s. slots s ∙ found.1.slots s;
    over = λ i. rw (over i) (found.1.over i);
    quiet = λ i x late. found.1.quiet i (hit_sample i hit x) late;
  },
)

cut-first : (part : Part) (after : ℕ) (hits : List Hit) → least_cut part ≤ after → IsUncut hits → added_by hits ≡ 0 → IsCut part (Cut after ∷ hits) after
cut-first part after hits least uncut added = record {
  least = least;
  added = added;
  slots = λ s. uncut.slots (take after s);
  over = λ i. rw (uncut.over i) (or-false (i == 40 * after + 4));
  quiet = λ i x late. (
      let late : nat_le (40 * after) i ≡ true = le-leb (40 * after) i late in
      ap (λ (b : Bool). struck_sample i hits (if b then Quiet else x)) late ∙ struck-quiet i hits
      );
}

cut-or-not : (part : Part) (hits : List Hit) → AreApart hits → AreRanged part hits → IsUncut hits ⊎ ((after : ℕ) × IsCut part hits after)
cut-or-not part [] apart ranged = inl record { slots = λ s. refl; over = λ i. refl }
cut-or-not part (Flip word set ∷ hits) apart ranged =
    passed-on part (Flip word set) hits (λ s. refl) (λ i. refl) refl (cut-or-not part hits apart.1 ranged.1)
cut-or-not part (Fade word set ∷ hits) apart ranged =
    passed-on part (Fade word set) hits (λ s. refl) (λ i. refl) refl (cut-or-not part hits apart.1 ranged.1)
cut-or-not part (Cut after ∷ hits) apart ranged =
    let rest = no-length (Cut after) hits refl apart.0 in
    inr (after, cut-first part after hits ranged.0.0 rest.0 rest.1)
cut-or-not part (Extra words ∷ hits) apart ranged =
    let rest = no-length (Extra words) hits refl apart.0 in
    inl record { slots = rest.0.slots; over = rest.0.over }

-- ---- the slots of the own words

pub spoiled-long : (hits : List Hit) (n : ℕ) (words : List Word) → length (spoiled hits n words) ≡ length words
spoiled-long hits n [] = refl
spoiled-long hits n (word ∷ words) = ap suc (spoiled-long hits (n + 1) words)

spoiled-at : (hits : List Hit) (a i : ℕ) (words : List Word) (word : Word) → slice_get words i ≡ Some word →
    slice_get (spoiled hits a words) i ≡ Some (if list_any (spoils (a + i)) hits then None else Some word)
spoiled-at hits a i [] word there = absurd (let low = slice_get_within {A = Word} [] i word there in omega (arith, low))
spoiled-at hits a zero (w ∷ words) word there =
    let here : a + 0 ≡ a = omega arith in
    let same : Some w ≡ Some word = there in
    rw here (ap (λ o. Some (if list_any (spoils a) hits then None else o)) same)
spoiled-at hits a (suc i) (w ∷ words) word there =
    let on : a + suc i ≡ a + 1 + i = omega arith in
    rw on (spoiled-at hits (a + 1) i words word there)

taken-at : {X : Type 0} (n i : ℕ) (xs : List X) → i < length (take n xs) → slice_get (take n xs) i ≡ slice_get xs i
taken-at {X = X} n i [] low = absurd (let none = length-take {A = X} n [] in omega (arith, low, none))
taken-at zero i (x ∷ xs) low = absurd (omega (arith, low))
taken-at (suc n) zero (x ∷ xs) low = refl
taken-at (suc n) (suc i) (x ∷ xs) low = taken-at n i xs (omega (arith, low))

-- a slot that is left of the own words is that of its word, which comes before each cut
cut-at : (hits : List Hit) (i : ℕ) (slots : List (Option Word)) → i < length (cut_by hits slots) →
    AreKeeping i hits × ((i < length slots) × (slice_get (cut_by hits slots) i ≡ slice_get slots i))
cut-at [] i slots low = (tt, (low, refl))
cut-at (Flip word set ∷ hits) i slots low = let rest = cut-at hits i slots low in ((tt, rest.0), (rest.1.0, rest.1.1))
cut-at (Fade word set ∷ hits) i slots low = let rest = cut-at hits i slots low in ((tt, rest.0), (rest.1.0, rest.1.1))
cut-at (Extra words ∷ hits) i slots low = let rest = cut-at hits i slots low in ((tt, rest.0), (rest.1.0, rest.1.1))
cut-at (Cut after ∷ hits) i slots low =
    let rest = cut-at hits i (take after slots) low in
    let long : length (take after slots) ≡ min after (length slots) = length-take after slots in
    let inside = rest.1.0 in
    ((omega (arith, inside, long), rest.0), (omega (arith, inside, long), rest.1.1 ∙ taken-at after i slots inside))

-- what stands at a place of the own words
pub record IsOwnSlot (hits : List Hit) (words : List Word) (i : ℕ) : Type 0 where
  pub word : Word
  pub there : slice_get words i ≡ Some word
  pub keeps : AreKeeping i hits
  pub slot : slice_get (own_struck hits words) i ≡ Some (if list_any (spoils i) hits then None else Some word)

there-at : {X : Type 0} (xs : List X) (i : ℕ) → i < length xs → (x : X) × (slice_get xs i ≡ Some x)
there-at [] i low = absurd (omega (arith, low))
there-at (x ∷ xs) zero low = (x, refl)
there-at (x ∷ xs) (suc i) low = there-at xs i (omega (arith, low))

pub own-slot : (hits : List Hit) (words : List Word) (i : ℕ) → i < length (own_struck hits words) → IsOwnSlot hits words i
own-slot hits words i low =
    let at = cut-at hits i (spoiled hits 0 words) low in
    let long : length (spoiled hits 0 words) ≡ length words = spoiled-long hits 0 words in
    let inside = at.1.0 in
    let word = there-at words i (omega (arith, inside, long)) in
    let here : 0 + i ≡ i = omega arith in
    record { word = word.0; there = word.1; keeps = at.0; slot = at.1.1 ∙ (rw here at (spoiled-at hits 0 i words word.0 word.1)) }

-- no word is added to the own ones
pub own-low : (hits : List Hit) (words : List Word) → length (own_struck hits words) ≤ length words
own-low hits words = elim (cases_lt (length words) (length (own_struck hits words))) [
  | inl more ↦ (
      let at = (cut-at hits (length words) (spoiled hits 0 words) more).1.0 in
      let long : length (spoiled hits 0 words) ≡ length words = spoiled-long hits 0 words in
      absurd (omega (arith, at, long)))
  | inr few ↦ few
]

-- ---- the slots of the part

in-front : {X : Type 0} (xs ys : List X) (i : ℕ) → i < length xs → slice_get (xs ++ ys) i ≡ slice_get xs i
in-front [] ys i low = absurd (omega (arith, low))
in-front (x ∷ xs) ys zero low = refl
in-front (x ∷ xs) ys (suc i) low = in-front xs ys i (omega (arith, low))

repeated-at : {X : Type 0} (n m i : ℕ) (x : X) → i < length (take n (replicate m x)) → slice_get (take n (replicate m x)) i ≡ Some x
repeated-at {X = X} n zero i x low = absurd (let none = length-take {A = X} n [] in omega (arith, low, none))
repeated-at zero (suc m) i x low = absurd (omega (arith, low))
repeated-at (suc n) (suc m) zero x low = refl
repeated-at (suc n) (suc m) (suc i) x low = repeated-at n m i x (omega (arith, low))

behind : {X : Type 0} (xs ys : List X) (x : X) (i : ℕ) → ((j : ℕ) → j < length ys → slice_get ys j ≡ Some x) → length xs ≤ i → i < length (xs ++ ys) →
    slice_get (xs ++ ys) i ≡ Some x
behind [] ys x i each from low = each i low
behind (first ∷ xs) ys x zero each from low = absurd (omega (arith, from))
behind (first ∷ xs) ys x (suc i) each from low = behind xs ys x i each (omega (arith, from)) (omega (arith, low))

pub front-slot : (hits : List Hit) (words : List Word) (i : ℕ) → i < length (own_struck hits words) →
    slice_get (struck hits words) i ≡ slice_get (own_struck hits words) i
front-slot hits words i low =
    in-front (own_struck hits words) (take (40 - length (own_struck hits words)) (replicate (added_by hits) (Some (data_word 0)))) i low

pub added-slot : (hits : List Hit) (words : List Word) (i : ℕ) → length (own_struck hits words) ≤ i → i < length (struck hits words) →
    slice_get (struck hits words) i ≡ Some (Some (data_word 0))
added-slot hits words i from low =
    behind (own_struck hits words) (take (40 - length (own_struck hits words)) (replicate (added_by hits) (Some (data_word 0))))
    (Some (data_word 0)) i (λ j low. repeated-at (40 - length (own_struck hits words)) (added_by hits) j (Some (data_word 0)) low) from low

-- ---- whole or short

pub struck-long : (hits : List Hit) (words : List Word) →
    length (struck hits words) ≡ length (own_struck hits words) + min (40 - length (own_struck hits words)) (added_by hits)
struck-long hits words =
    let own = own_struck hits words in
    let zeros = replicate (added_by hits) (Some (data_word 0)) in
    let all : length zeros ≡ added_by hits = length-replicate (added_by hits) (Some (data_word 0)) in
    let taken : length (take (40 - length own) zeros) ≡ min (40 - length own) (length zeros) = length-take (40 - length own) zeros in
    let whole : length (own ++ take (40 - length own) zeros) ≡ length own + length (take (40 - length own) zeros) =
    length-append own (take (40 - length own) zeros) in
    omega (arith, all, taken, whole)

-- all words of the part are shown, and perhaps some that an extra adds
pub record IsWhole (hits : List Hit) (words : List Word) : Type 0 where
  pub own : length (own_struck hits words) ≡ length words
  pub ticks : length (struck hits words) ≡ length words + min (40 - length words) (added_by hits)
  -- and no cut ends the part while they are sent
  pub uncut : (i : ℕ) → i < 40 * length words → list_any (cut_over i) hits ≡ false

-- a cut leaves so many of the words, and nothing is added
pub record IsShort (part : Part) (hits : List Hit) (words : List Word) (after : ℕ) : Type 0 where
  pub least : least_cut part ≤ after
  pub before : after < length words
  pub own : length (own_struck hits words) ≡ after
  pub ticks : length (struck hits words) ≡ after
  pub added : added_by hits ≡ 0
  -- from there on all is quiet, and the fourth quiet sample is the last
  pub quiet : (i : ℕ) (x : Sample) → 40 * after ≤ i → struck_sample i hits x ≡ Quiet
  pub over : (i : ℕ) → list_any (cut_over i) hits ≡ (i == 40 * after + 4)

uncut-whole : (hits : List Hit) (words : List Word) → IsUncut hits → IsWhole hits words
uncut-whole hits words uncut =
    let own : length (own_struck hits words) ≡ length words = ap (λ (s : List (Option Word)). length s) (uncut.slots (spoiled hits 0 words)) ∙ spoiled-long hits 0 words in
    let all = struck-long hits words in
    record { own = own; ticks = omega (arith, own, all); uncut = λ i low. uncut.over i }

cut-own : (part : Part) (hits : List Hit) (words : List Word) (after : ℕ) → IsCut part hits after →
    length (own_struck hits words) ≡ min after (length words)
cut-own part hits words after cut =
    let long : length (spoiled hits 0 words) ≡ length words = spoiled-long hits 0 words in
    let taken : length (take after (spoiled hits 0 words)) ≡ min after (length (spoiled hits 0 words)) = length-take after (spoiled hits 0 words) in
    ap (λ (s : List (Option Word)). length s) (cut.slots (spoiled hits 0 words)) ∙ omega (arith, long, taken)

cut-whole : (part : Part) (hits : List Hit) (words : List Word) (after : ℕ) → IsCut part hits after → length words ≤ after → IsWhole hits words
cut-whole part hits words after cut late =
    let kept = cut-own part hits words after cut in
    let all = struck-long hits words in
    let none = cut.added in
    record {
      own = omega (arith, kept, late);
      ticks = omega (arith, kept, late, all, none);
      uncut = λ i low. (let no : (i == 40 * after + 4) ≡ false = grind (arith, nat_tests, low, late) in cut.over i ∙ no);
    }

cut-short : (part : Part) (hits : List Hit) (words : List Word) (after : ℕ) → IsCut part hits after → after < length words → IsShort part hits words after
cut-short part hits words after cut early =
    let kept = cut-own part hits words after cut in
    let all = struck-long hits words in
    let none = cut.added in
    record {
      least = cut.least;
      before = early;
      own = omega (arith, kept, early);
      ticks = omega (arith, kept, early, all, none);
      added = none;
      quiet = cut.quiet;
      over = cut.over;
    }

-- a part is whole or cut short
pub whole-or-short : (part : Part) (hits : List Hit) (words : List Word) → HitsFit part hits words →
    IsWhole hits words ⊎ ((after : ℕ) × IsShort part hits words after)
whole-or-short part hits words fits = elim (cut-or-not part hits (apart-all hits fits.apart) (ranged-all part hits fits.ranges)) [
  | inl uncut ↦ inl (uncut-whole hits words uncut)
  | inr found ↦ elim (cases_lt found.0 (length words)) [
    | inl early ↦ inr (found.0, cut-short part hits words found.0 found.1 early)
    | inr late ↦ inl (cut-whole part hits words found.0 found.1 late)
  ]
]
