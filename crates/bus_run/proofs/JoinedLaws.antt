-- A bus behind whose terminals there is nothing.
use Rattle.std.proofs.Common.{◌≡◌, ◌≤◌, ◌∙◌, ℕ, zero, suc, List, [], length, min, replicate, refl, ap, sym, subst, arith, Option, Some, None}
use Rattle.std.specs.Prelude.{slice_get, sum_by}
use Rattle.std.proofs.lemmas.Option.{same_Some}
use Rattle.bus_base.specs.declared.samples.Pair.{Pair}
use Rattle.bus_formats.specs.Plans.{StationData, PlanData}
use Rattle.bus_formats.specs.declared.log.Delivery.{Delivery}
use Rattle.bus_run.specs.Amounts.{attempts_of_station, most_attempts}
use Rattle.bus_run.specs.Deliveries.{ObjectsIn, ServesIn, AreFew}
use Rattle.bus_run.specs.Settings.{Setting, unserved}

-- so many times the same
same-length : {A : Type 0} (n : ℕ) (x : A) → length (replicate n x) ≡ n
same-length zero x = refl
same-length (suc n) x = ap suc (same-length n x)

same-there : {A : Type 0} (n : ℕ) (x y : A) (i : ℕ) → slice_get (replicate n x) i ≡ Some y → x ≡ y
same-there zero x y i at = (let no : None ≡ Some y = at in cc)
same-there (suc n) x y zero at = same_Some x y at
same-there (suc n) x y (suc i) at = same-there n x y i at

no-object : (n i p : ℕ) → slice_get (replicate n None) i ≡ Some (Some p) → ⊥
no-object n i p at = (let no : None ≡ Some p = same-there n None (Some p) i at in cc)

-- no station has an object
pub none-have-objects : (plan : PlanData) (objects : List (Option ℕ)) (n : ℕ) → objects ≡ replicate n None → n ≡ length plan.stations →
    ObjectsIn (unserved plan) objects
none-have-objects plan objects n are many =
    subst (λ xs. ObjectsIn (unserved plan) xs) (sym are) (record {
      all = same-length n None ∙ many;
      there = λ i p s here at. absurd (no-object n i p at);
      whole = λ p s at. absurd (let no : None ≡ Some s = at in cc);
      apart = λ i j p at other. absurd (no-object n i p at);
    })

nobody-there : (stations : List StationData) (p : ℕ) (s : StationData) → stations ≡ [] → slice_get stations p ≡ Some s → ⊥
nobody-there stations p s none at = (let no : None ≡ Some s = ap (λ ss. slice_get ss p) (sym none) ∙ at in cc)

-- no object is served
pub nobody-serves : (w : Setting) (past : List Pair) (told : List (Option (List Delivery))) (spare : List ℕ) → w.served ≡ [] → told ≡ [] → spare ≡ [] →
    ServesIn w [] past told spare
nobody-serves w past told spare none no-told no-spare = record {
  all = ap length no-told ∙ sym (ap length none);
  all_before = sym (ap length none);
  all_spare = ap length no-spare ∙ sym (ap length none);
  tells = λ p s old now at was is. absurd (nobody-there w.served p s none at);
  room = λ p s n at is. absurd (nobody-there w.served p s none at);
}

pub nobody-few : (w : Setting) (past : List Pair) → w.served ≡ [] → AreFew w past
nobody-few w past none = λ p s at. absurd (nobody-there w.served p s none at)

-- ---- room

least-below : (most amount : ℕ) → min most amount ≤ most
least-below most amount = grind arith

-- room is made for no more attempts than 32 bits count
pub attempts-below : (plan : PlanData) → most_attempts plan ≤ 2147483648
unfolding most_attempts
attempts-below plan = least-below 2147483648 (sum_by attempts_of_station plan.stations)
