-- A plan whose faults and amounts break no rule has faults apart and keeps the limits.
use Rattle.std.proofs.Common.{◌≡◌, ◌<◌, ◌≤◌, ◌+◌, ◌*◌, inl, inr, ℕ, zero, suc, Bool, true, false, cond, ◌&&◌, ◌==◌, List, [], ◌∷◌, take, length, get_or, Option, Some, None, All, AllPairs, arith, refl, sym, ◌∙◌, subst, eq-eqb}
use Rattle.std.specs.Prelude.{nat_lt}
use Rattle.std.specs.List.{list_any, fold}
use Rattle.std.proofs.lemmas.Bool.{and_from, cases_Bool, false≢true}
use Rattle.std.proofs.lemmas.Bool.Decides.{nat_tests}
use Rattle.std.proofs.lemmas.List.Folds.{list_any_at}
use Rattle.bus_base.specs.declared.samples.Part.{Part}
use Rattle.bus_base.specs.declared.samples.Part.TheVariants.{Command, First, Second}
use Rattle.bus_formats.specs.Accepted.{word_struck, StrikesTheSame, items_in, IsWithinLimits}
use Rattle.bus_formats.specs.Plans.{StationData, PlanData}
use Rattle.bus_formats.specs.declared.fault.Fault.{Fault}
use Rattle.bus_formats.specs.declared.fault.Hit.{Hit}
use Rattle.bus_formats.specs.declared.fault.Hit.TheVariants.{Flip, Cut, Extra, Fade}
use Rattle.bus_plan.specs.FaultRules.{word_of, is_same_part, is_same_word, is_same, has_same, same_fault}
use Rattle.bus_plan.specs.Limits.{of_frames, of_stations, most_frames, times_in, too_many}
use Rattle.bus_plan.specs.declared.limits.Measure.TheVariants.{Items, RepeatedItems, RepeatedTicks}
use Rattle.bus_plan.specs.declared.rows.Head.{Head}
use Rattle.bus_plan.proofs.ItemLaws.{or_left, or_right, none_unless}

-- faults that strike the same pass the test
part_self : (p : Part) → is_same_part p p ≡ true
part_self Command = refl
part_self First = refl
part_self Second = refl

word_self : (w : Option ℕ) → is_same_word w w ≡ true
word_self None = refl
word_self (Some w) = eq-eqb w w refl

pub word_is : (h : Hit) → word_of h ≡ word_struck h
word_is (Flip word set) = refl
word_is (Fade word set) = refl
word_is (Cut after) = refl
word_is (Extra words) = refl

same_part : (p q : Part) → p ≡ q → is_same_part p q ≡ true
same_part p q e = subst (λ r. is_same_part p r ≡ true) e (part_self p)

same_word : (v w : Option ℕ) → v ≡ w → is_same_word v w ≡ true
same_word v w e = subst (λ x. is_same_word v x ≡ true) e (word_self v)

strikes : (f g : Fault) → StrikesTheSame f g → is_same f g ≡ true
strikes f g h =
    and_from ((f.attempt == g.attempt) && is_same_part f.part g.part) (is_same_word (word_of f.hit) (word_of g.hit))
    (and_from (f.attempt == g.attempt) (is_same_part f.part g.part) (eq-eqb f.attempt g.attempt h.attempt) (same_part f.part g.part h.part))
    (same_word (word_of f.hit) (word_of g.hit) (word_is f.hit ∙ h.word ∙ sym (word_is g.hit)))

-- faults of which none strikes the same as an earlier one
no_same : (f : Fault) (fs : List Fault) (m i : ℕ) (d : Fault) → has_same f (take m fs) ≡ false → i < m → i < length fs
    → is_same (get_or fs i d) f ≡ false
no_same f [] m i d h less within = absurd (omega (arith, within))
no_same f (g ∷ gs) zero i d h less within = absurd (omega (arith, less))
no_same f (g ∷ gs) (suc m) zero d h less within = or_left (is_same g f) _ h
no_same f (g ∷ gs) (suc m) (suc i) d h less within =
    no_same f gs m i d (or_right (is_same g f) _ h) (omega (arith, less)) (omega (arith, within))

no_earlier : (all : List Fault) (n : ℕ) (fs : List Fault) (j : ℕ) (d : Fault) → same_fault all n fs ≡ None → j < length fs
    → has_same (get_or fs j d) (take (n + j) all) ≡ false
no_earlier all n [] j d h within = absurd (omega (arith, within))
no_earlier all n (f ∷ fs) zero d h within =
    let e : n + 0 ≡ n = omega arith in
    rw e ((none_unless (has_same f (take n all)) _ (same_fault all (n + 1) fs) h).0)
no_earlier all n (f ∷ fs) (suc j) d h within =
    let e : n + suc j ≡ n + 1 + j = omega arith in
    rw e (no_earlier all (n + 1) fs j d ((none_unless (has_same f (take n all)) _ (same_fault all (n + 1) fs) h).1) (omega (arith, within)))

pub faults_apart : (fs : List Fault) → same_fault fs 0 fs ≡ None → AllPairs (λ a b. StrikesTheSame a b → ⊥) fs
faults_apart fs h i j d less within same =
    let i_in : i < length fs = omega (arith, less, within) in
    let zero_j : 0 + j ≡ j = omega arith in
    false≢true (sym (no_same (get_or fs j d) fs j i d (rw zero_j at (no_earlier fs 0 fs j d h within)) less i_in)
    ∙ strikes (get_or fs i d) (get_or fs j d) same)

-- sums of equal amounts are equal
pub sum_same : {X : Type 0} (f g : X → ℕ) → ((x : X) → f x ≡ g x) → (a : ℕ) (xs : List X)
    → fold (λ a x. a + f x) a xs ≡ fold (λ a x. a + g x) a xs
sum_same f g h a [] = refl
sum_same f g h a (x ∷ xs) = rw (h x) (sum_same f g h (a + g x) xs)

pub once : (s : StationData) → times_in Items s * of_frames Items s.frames ≡ items_in s
once s = omega arith

pub not_above : (most n : ℕ) → nat_lt most n ≡ false → n ≤ most
not_above most n h = grind (arith, nat_tests)

most_known : (second : Bool) → cond second 1024 64 ≤ 1024
most_known true = omega arith
most_known false = omega arith

frames_few : (most : ℕ) (ss : List StationData) → most ≤ 1024 → list_any (λ s. nat_lt most (length s.frames)) ss ≡ false
    → All (λ s. length s.frames ≤ 1024) ss
frames_few most ss m h k d within =
    elim (cases_Bool (nat_lt most (length (get_or ss k d).frames))) [
      | inl holds ↦ absurd (false≢true (sym h ∙ list_any_at (λ s. nat_lt most (length s.frames)) ss k d within holds))
      | inr fails ↦ omega (arith, not_above most (length (get_or ss k d).frames) fails, m)
    ]

-- a plan that has nothing too much keeps the limits
pub limits_kept : (head : Head) (p : PlanData) → too_many head p ≡ None → IsWithinLimits p
limits_kept head p h =
    let one = none_unless (nat_lt 32 (length p.stations)) _ _ h in
    let two = none_unless (list_any (λ s. nat_lt (most_frames head) (length s.frames)) p.stations) _ _ one.1 in
    let three = none_unless (nat_lt 4096 (of_stations Items p.stations)) _ _ two.1 in
    let four = none_unless (nat_lt 1024 (length p.faults)) _ _ three.1 in
    let five = none_unless (nat_lt 16384 (of_stations RepeatedItems p.stations)) _ _ four.1 in
    let six = none_unless (nat_lt 2048000000 (of_stations RepeatedTicks p.stations)) _ _ five.1 in
    record {
      stations = not_above 32 (length p.stations) one.0;
      frames = frames_few (most_frames head) p.stations (most_known head.is_second) two.0;
      items = rw (sum_same (λ s. times_in Items s * of_frames Items s.frames) items_in once 0 p.stations) at
          (not_above 4096 (of_stations Items p.stations) three.0);
      faults = not_above 1024 (length p.faults) four.0;
      repeated_items = not_above 16384 (of_stations RepeatedItems p.stations) five.0;
      repeated_ticks = not_above 2048000000 (of_stations RepeatedTicks p.stations) six.0;
    }
