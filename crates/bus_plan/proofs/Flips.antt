-- Lists of positions that may stand, and the sets of flips and fades that they name.
use Rattle.std.proofs.Common.{◌≡◌, ◌≢◌, ◌<◌, ◌≤◌, ℕ, ◌+◌, ◌*◌, ◌%◌, inl, inr, Bool, true, false, not, ◌&&◌, ◌==◌, zero, suc, List, [], ◌∷◌, Some, None, cond, length, get_or, arith, refl, sym, ap, ◌∙◌, subst, eq-eqb, eqb-true}
use Rattle.std.proofs.lemmas.Bool.{and_parts, and_from, and_right, cases_eq, cases_Bool, false≢true}
use Rattle.std.proofs.lemmas.Bool.Decides.{nat_tests}
use Rattle.std.specs.Bool.{beq}
use Rattle.std.specs.List.{list_all, range_with_len}
use Rattle.bus_base.specs.Positions.{IsWithin, Rises, set_of, takes, IsFirstOutside, IsFirstUnordered}
use Rattle.bus_base.specs.Flips as flips
use Rattle.bus_base.specs.Flips.{IsUndetectable, IsDetectable, pairs_taken}
use Rattle.bus_base.specs.Fades as fades
use Rattle.bus_base.specs.declared.fades.FadeRefusal.{FadeRefusal}
use Rattle.bus_base.specs.declared.fades.FadeRefusal.TheVariants as fade_refusals
use Rattle.bus_base.specs.declared.flips.FlipRefusal.{FlipRefusal}
use Rattle.bus_base.specs.declared.flips.FlipRefusal.TheVariants as flip_refusals
use Rattle.bus_plan.specs.Positions.{rises, may_stand, takes_sync_wholly, takes_pairs_wholly, is_undetectable}
use Rattle.bus_plan.specs.DecodeFaults.{flips_at, fades_at}
use Rattle.bus_plan.specs.Ranges.{flip_range, fade_range}
use Rattle.bus_plan.specs.declared.ranges.Range.{Range}

-- what a rising list says of its first position
pub low_first : (low high p : ℕ) (ps : List ℕ) → rises low high (p ∷ ps) ≡ true → low ≤ p
low_first low high p ps h = grind (arith, nat_tests)

pub first_high : (low high p : ℕ) (ps : List ℕ) → rises low high (p ∷ ps) ≡ true → p ≤ high
first_high low high p ps h = grind (arith, nat_tests)

pub rest_rises : (low high p : ℕ) (ps : List ℕ) → rises low high (p ∷ ps) ≡ true → rises (suc p) high ps ≡ true
rest_rises low high p ps h = grind (arith, nat_tests)

-- a rising list lies within its range, and each position is above the one before
pub rises_within : (low high : ℕ) (ps : List ℕ) → rises low high ps ≡ true → IsWithin low high ps
rises_within low high [] h i lt = absurd (omega arith)
rises_within low high (p ∷ ps) h zero lt = (low_first low high p ps h, first_high low high p ps h)
rises_within low high (p ∷ ps) h (suc i) lt =
    let w = rises_within (suc p) high ps (rest_rises low high p ps h) i (omega arith) in
    let l = low_first low high p ps h in
    (omega (arith, w.0, l), w.1)

pub rises_above : (low high : ℕ) (ps : List ℕ) → rises low high ps ≡ true → Rises ps
rises_above low high [] h i lt = absurd (omega arith)
rises_above low high (p ∷ []) h i lt = absurd (omega arith)
rises_above low high (p ∷ q ∷ ps) h zero lt = low_first (suc p) high q ps (rest_rises low high p (q ∷ ps) h)
rises_above low high (p ∷ q ∷ ps) h (suc i) lt =
    let e : suc i + 1 ≡ suc (i + 1) = omega arith in
    rw e (rises_above (suc p) high (q ∷ ps) (rest_rises low high p (q ∷ ps) h) i (omega arith))

-- what it means that a list may stand
stand_some : (range : Range) (most : ℕ) (ps : List ℕ) → may_stand range most ps ≡ true → 1 ≤ length ps
stand_some range most ps h = grind (arith, nat_tests)

stand_few : (range : Range) (most : ℕ) (ps : List ℕ) → may_stand range most ps ≡ true → length ps ≤ most
stand_few range most ps h = grind (arith, nat_tests)

stand_rises : (range : Range) (most : ℕ) (ps : List ℕ) → may_stand range most ps ≡ true → rises range.low range.high ps ≡ true
stand_rises range most ps h = grind (arith, nat_tests)

-- a list that may stand breaks none of the rules on positions
not_empty : (ps : List ℕ) → 1 ≤ length ps → ps ≢ []
not_empty [] h e = omega arith
not_empty (p ∷ ps) h e = absurd (cc)

not_outside : (low high place : ℕ) (ps : List ℕ) → IsWithin low high ps → IsFirstOutside low high ps place → ⊥
not_outside low high place ps within outside =
    let w = within place outside.within in
    let o = outside.outside in
    grind (arith, w, o)

not_unordered : (place : ℕ) (ps : List ℕ) → Rises ps → IsFirstUnordered ps place → ⊥
not_unordered zero ps rise unordered = omega (arith, unordered.after)
not_unordered (suc i) ps rise unordered =
    let e : i + 1 ≡ suc i = omega arith in
    let fall = unordered.falls i e in
    let up : get_or ps i 0 < get_or ps (suc i) 0 = subst (λ n. get_or ps i 0 < get_or ps n 0) e (rise i (rw e unordered.within)) in
    omega (arith, fall, up)

-- equal booleans, and tests over a range of numbers
beq_self : (x : Bool) → beq x x ≡ true
beq_self true = refl
beq_self false = refl

beq_from : (x y : Bool) → x ≡ y → beq x y ≡ true
beq_from x y e = subst (λ z. beq x z ≡ true) e (beq_self x)

beq_to : (x y : Bool) → beq x y ≡ true → x ≡ y
beq_to true true h = refl
beq_to false false h = refl
beq_to true false h = absurd (false≢true h)
beq_to false true h = absurd (false≢true h)

all_from : (f : ℕ → Bool) (a n : ℕ) → ((p : ℕ) → a ≤ p → p < a + n → f p ≡ true) → list_all f (range_with_len a n) ≡ true
all_from f a zero h = refl
all_from f a (suc n) h =
    and_from (f a) (list_all f (range_with_len (a + 1) n)) (h a (omega arith) (omega arith))
    (all_from f (a + 1) n (λ p l u. h p (omega arith) (omega arith)))

all_at : (f : ℕ → Bool) (a n : ℕ) → list_all f (range_with_len a n) ≡ true → (p : ℕ) → a ≤ p → p < a + n → f p ≡ true
all_at f a zero h p l u = absurd (omega arith)
all_at f a (suc n) h p l u =
    let parts = and_parts (f a) (list_all f (range_with_len (a + 1) n)) h in
    elim (cases_eq p a) [
      | inl e ↦ subst (λ q. f q ≡ true) (sym e) parts.0
      | inr ne ↦ all_at f (a + 1) n parts.1 p (omega arith) (omega arith)
    ]

-- the test of a set tells what can't be detected, both ways
undetectable_test : (set : List Bool) → IsUndetectable set → is_undetectable set ≡ true
unfolding is_undetectable
undetectable_test set h =
    and_from (takes_sync_wholly set && takes_pairs_wholly set) (pairs_taken set 17 % 2 == 0)
    (and_from (takes_sync_wholly set) (takes_pairs_wholly set)
    (all_from (λ p. beq (takes set p) (takes set 0)) 0 6 (λ p l u. beq_from (takes set p) (takes set 0) (h.sync p (omega arith))))
    (all_from (λ i. beq (takes set (7 + 2 * i)) (takes set (6 + 2 * i))) 0 17
    (λ i l u. beq_from (takes set (7 + 2 * i)) (takes set (6 + 2 * i)) (h.pairs i (omega arith)))))
    (eq-eqb (pairs_taken set 17 % 2) 0 h.even)

undetectable_is : (set : List Bool) → is_undetectable set ≡ true → IsUndetectable set
unfolding is_undetectable
undetectable_is set h =
    let whole = and_parts (takes_sync_wholly set && takes_pairs_wholly set) (pairs_taken set 17 % 2 == 0) h in
    let parts = and_parts (takes_sync_wholly set) (takes_pairs_wholly set) whole.0 in
    record {
      sync = λ p lt. beq_to (takes set p) (takes set 0)
          (all_at (λ p. beq (takes set p) (takes set 0)) 0 6 parts.0 p (omega arith) (omega arith));
      pairs = λ i lt. beq_to (takes set (7 + 2 * i)) (takes set (6 + 2 * i))
          (all_at (λ i. beq (takes set (7 + 2 * i)) (takes set (6 + 2 * i))) 0 17 parts.1 i (omega arith) (omega arith));
      even = eqb-true (pairs_taken set 17 % 2) 0 whole.1;
    }

-- a list that is taken as a set of flips can be detected; of those that may stand, only one that can't is refused
pub detectable_test : (ps : List ℕ) → IsDetectable ps → is_undetectable (set_of ps) ≡ false
detectable_test ps h =
    elim (cases_Bool (is_undetectable (set_of ps))) [
      | inl holds ↦ absurd (h.detectable (undetectable_is (set_of ps) holds))
      | inr fails ↦ fails
    ]

pub refused_test : (ps : List ℕ) (r : FlipRefusal) → may_stand flip_range 40 ps ≡ true → flips.IsRefused ps r → is_undetectable (set_of ps) ≡ true
refused_test ps flip_refusals.Empty stands h = absurd (not_empty ps (stand_some flip_range 40 ps stands) h)
refused_test ps (flip_refusals.Position place) stands h =
    absurd (not_outside 0 39 place ps (rises_within 0 39 ps (stand_rises flip_range 40 ps stands)) h)
refused_test ps (flip_refusals.Order place) stands h =
    absurd (not_unordered place ps (rises_above 0 39 ps (stand_rises flip_range 40 ps stands)) h.1)
refused_test ps flip_refusals.Undetectable stands h = undetectable_test (set_of ps) h.3

-- no list that may stand is refused as a set of fades
pub fade_not_refused : (ps : List ℕ) (r : FadeRefusal) → may_stand fade_range 3 ps ≡ true → fades.IsRefused ps r → ⊥
fade_not_refused ps fade_refusals.Empty stands h = not_empty ps (stand_some fade_range 3 ps stands) h
fade_not_refused ps (fade_refusals.Position place) stands h =
    not_outside 3 38 place ps (rises_within 3 38 ps (stand_rises fade_range 3 ps stands)) h
fade_not_refused ps (fade_refusals.Order place) stands h =
    not_unordered place ps (rises_above 3 38 ps (stand_rises fade_range 3 ps stands)) h.1
fade_not_refused ps fade_refusals.Count stands h = omega (arith, h.2, stand_few fade_range 3 ps stands)

-- a list that is taken as a set of flips, or of fades, is one
pub detectable_list : (ps : List ℕ) → (may_stand flip_range 40 ps && not (is_undetectable (set_of ps))) ≡ true → IsDetectable ps
detectable_list ps h =
    let parts = and_parts (may_stand flip_range 40 ps) (not (is_undetectable (set_of ps))) h in
    record {
      some = not_empty ps (stand_some flip_range 40 ps parts.0);
      within = rises_within 0 39 ps (stand_rises flip_range 40 ps parts.0);
      rises = rises_above 0 39 ps (stand_rises flip_range 40 ps parts.0);
      detectable = λ u. let t = undetectable_test (set_of ps) u in false≢true (ap not (sym t) ∙ parts.1);
    }

pub fade_list : (ps : List ℕ) → may_stand fade_range 3 ps ≡ true → fades.IsFade ps
fade_list ps h = record {
  some = not_empty ps (stand_some fade_range 3 ps h);
  within = rises_within 3 38 ps (stand_rises fade_range 3 ps h);
  rises = rises_above 3 38 ps (stand_rises fade_range 3 ps h);
  few = stand_few fade_range 3 ps h;
}

-- what is made of a list that may stand, by whether it is taken or refused
pub taken_detectable : (ps : List ℕ) (set : List Bool) → IsDetectable ps × (set ≡ set_of ps) → false ≡ is_undetectable (set_of ps)
taken_detectable ps set h = sym (detectable_test ps h.0)

pub refused_undetectable : (ps : List ℕ) (r : FlipRefusal) → may_stand flip_range 40 ps ≡ true → flips.IsRefused ps r
    → true ≡ is_undetectable (set_of ps)
refused_undetectable ps r stands h = sym (refused_test ps r stands h)

some_if : (set ps : List Bool) (b : Bool) → b ≡ true → set ≡ ps → Some set ≡ cond b (Some ps) None
some_if set ps true e s = ap Some s
some_if set ps false e s = absurd (false≢true e)

none_if : (ps : List Bool) (b : Bool) → b ≡ false → None ≡ cond b (Some ps) None
none_if ps false e = refl
none_if ps true e = absurd (false≢true (sym e))

pub taken_flips : (ps : List ℕ) (set : List Bool) → may_stand flip_range 40 ps ≡ true → IsDetectable ps × (set ≡ set_of ps)
    → Some set ≡ flips_at ps
taken_flips ps set stands h =
    some_if set (set_of ps) _ (and_from (may_stand flip_range 40 ps) (not (is_undetectable (set_of ps))) stands (ap not (detectable_test ps h.0))) h.1

pub refused_flips : (ps : List ℕ) (r : FlipRefusal) → may_stand flip_range 40 ps ≡ true → flips.IsRefused ps r → None ≡ flips_at ps
refused_flips ps r stands h =
    none_if (set_of ps) _ (and_right (may_stand flip_range 40 ps) (not (is_undetectable (set_of ps))) (ap not (refused_test ps r stands h)))

pub taken_fades : (ps : List ℕ) (set : List Bool) → may_stand fade_range 3 ps ≡ true → fades.IsFade ps × (set ≡ set_of ps)
    → Some set ≡ fades_at ps
taken_fades ps set stands h = some_if set (set_of ps) (may_stand fade_range 3 ps) stands h.1
