-- The hits that an accepted plan has on one part of an attempt fit it.
use Rattle.std.proofs.Common.{◌≡◌, ◌≢◌, ℕ, suc, ◌<◌, ◌≤◌, Bool, true, false, List, [], ◌∷◌, length, Option, Some, None, refl, sym, ap, ◌∙◌, subst, arith}
use Rattle.std.proofs.lemmas.Bool.{and_parts}
use Rattle.std.proofs.lemmas.Bool.Decides.{nat_tests}
use Rattle.std.proofs.lemmas.List.Elements.{All-cons}
use Rattle.std.proofs.lemmas.List.Kept.{AllPairs-cons}
use Rattle.std.proofs.lemmas.Option.{none-some, same_Some}
use Rattle.std.specs.Prelude.{◌==◌, if◌then◌else◌, filter_map}
use Rattle.std.specs.List.{All, AllPairs, cons_option}
use Rattle.bus_base.specs.Samples.{same_part}
use Rattle.bus_base.specs.declared.samples.Part.{Part}
use Rattle.bus_base.specs.declared.samples.Part.TheVariants.{Command, First, Second}
use Rattle.bus_words.specs.declared.word.Word.{Word}
use Rattle.bus_formats.specs.Accepted.{HasHitRanges, HasFaultRanges, StrikesTheSame, word_struck, IsAccepted}
use Rattle.bus_formats.specs.Plans.{PlanData}
use Rattle.bus_formats.specs.declared.fault.Fault.{Fault}
use Rattle.bus_formats.specs.declared.fault.Hit.{Hit}
use Rattle.bus_model.specs.Strikes.{hit_on, hits_on}
use Rattle.bus_law_parts.specs.Parts.{HitsFit}

-- ---- what holds of the elements of a list holds of those that a map keeps

kept-either : {Y : Type 0} (Q : Y → Type 0) (o : Option Y) (ys : List Y) → ((y : Y) → o ≡ Some y → Q y) → All Q ys → All Q (cons_option o ys)
kept-either Q None ys own rest = rest
kept-either Q (Some y) ys own rest = All-cons Q y ys (own y refl) rest

all-kept : {X Y : Type 0} (P : X → Type 0) (Q : Y → Type 0) (h : X → Option Y) → ((x : X) (y : Y) → P x → h x ≡ Some y → Q y) →
    (xs : List X) → All P xs → All Q (filter_map h xs)
all-kept P Q h keeps [] all = λ i d low. absurd (omega (arith, low))
all-kept P Q h keeps (x ∷ xs) all =
    kept-either Q (h x) (filter_map h xs) (λ y e. keeps x y (all 0 x (omega arith)) e)
    (all-kept P Q h keeps xs (λ i d low. all (suc i) d (omega (arith, low))))

pairs-either : {Y : Type 0} (S : Y → Y → Type 0) (o : Option Y) (ys : List Y) → ((y : Y) → o ≡ Some y → All (S y) ys) → AllPairs S ys →
    AllPairs S (cons_option o ys)
pairs-either S None ys own rest = rest
pairs-either S (Some y) ys own rest = AllPairs-cons S y ys (own y refl) rest

-- likewise of each two
pairs-kept : {X Y : Type 0} (R : X → X → Type 0) (S : Y → Y → Type 0) (h : X → Option Y) →
    ((x : X) (y : Y) (other : X) (kept : Y) → R x other → h x ≡ Some y → h other ≡ Some kept → S y kept) →
    (xs : List X) → AllPairs R xs → AllPairs S (filter_map h xs)
pairs-kept R S h keeps [] all = λ i j d low high. absurd (omega (arith, high))
pairs-kept R S h keeps (x ∷ xs) all =
    pairs-either S (h x) (filter_map h xs)
    (λ y e. all-kept (R x) (S y) h (λ other kept r f. keeps x y other kept r e f) xs (λ i d low. all 0 (suc i) d (omega arith) (omega (arith, low))))
    (pairs-kept R S h keeps xs (λ i j d low high. all (suc i) (suc j) d (omega (arith, low)) (omega (arith, high))))

-- ---- the faults of a part

same-part-is : (a b : Part) → same_part a b ≡ true → a ≡ b
same-part-is Command Command h = refl
same-part-is First First h = refl
same-part-is Second Second h = refl
same-part-is Command First h = absurd (grind (arith, h))
same-part-is Command Second h = absurd (grind (arith, h))
same-part-is First Command h = absurd (grind (arith, h))
same-part-is First Second h = absurd (grind (arith, h))
same-part-is Second Command h = absurd (grind (arith, h))
same-part-is Second First h = absurd (grind (arith, h))

by-test : (b : Bool) (x hit : Hit) → (if b then Some x else None) ≡ Some hit → (b ≡ true) × (x ≡ hit)
by-test true x hit e = (refl, same_Some x hit e)
by-test false x hit e = absurd (none-some hit e)

-- a fault whose hit is kept names this attempt and this part
record IsKept (attempt : ℕ) (part : Part) (fault : Fault) (hit : Hit) : Type 0 where
  attempt_is : fault.attempt ≡ attempt
  part_is : fault.part ≡ part
  hit_is : fault.hit ≡ hit

kept : (attempt : ℕ) (part : Part) (fault : Fault) (hit : Hit) → hit_on attempt part fault ≡ Some hit → IsKept attempt part fault hit
kept attempt part fault hit e =
    let test = by-test _ fault.hit hit e in
    let parts = and_parts (fault.attempt == attempt) (same_part fault.part part) test.0 in
    record { attempt_is = grind (arith, nat_tests, parts.0); part_is = same-part-is fault.part part parts.1; hit_is = test.1 }

ranges-kept : (attempt : ℕ) (part : Part) (fault : Fault) (hit : Hit) → HasFaultRanges fault → hit_on attempt part fault ≡ Some hit → HasHitRanges part hit
ranges-kept attempt part fault hit ranges e =
    let k = kept attempt part fault hit e in
    subst (λ p. HasHitRanges p hit) k.part_is (subst (λ x. HasHitRanges fault.part x) k.hit_is ranges.hit)

apart-kept : (attempt : ℕ) (part : Part) (fault : Fault) (hit : Hit) (other : Fault) (beside : Hit) → (StrikesTheSame fault other → ⊥) →
    hit_on attempt part fault ≡ Some hit → hit_on attempt part other ≡ Some beside → word_struck hit ≢ word_struck beside
apart-kept attempt part fault hit other beside apart e f same =
    let k = kept attempt part fault hit e in
    let m = kept attempt part other beside f in
    apart record {
      attempt = k.attempt_is ∙ sym m.attempt_is;
      part = k.part_is ∙ sym m.part_is;
      word = ap word_struck k.hit_is ∙ same ∙ sym (ap word_struck m.hit_is);
    }

pub hits-fit : (plan : PlanData) (attempt : ℕ) (part : Part) (words : List Word) → IsAccepted plan → 0 < length words → length words ≤ 40 →
    All (λ (word : Word). word.bits < 65536) words → HitsFit part (hits_on plan.faults attempt part) words
hits-fit plan attempt part words accepted some few bits = record {
  some = some;
  few = few;
  bits = bits;
  ranges = all-kept HasFaultRanges (HasHitRanges part) (hit_on attempt part) (ranges-kept attempt part) plan.faults accepted.hits;
  apart = pairs-kept (λ a b. StrikesTheSame a b → ⊥) (λ a b. word_struck a ≢ word_struck b) (hit_on attempt part)
      (λ x y other beside r e f. apart-kept attempt part x y other beside r e f) plan.faults accepted.faults;
}
