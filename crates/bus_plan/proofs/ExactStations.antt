-- The searches for the rules on stations find nothing exactly where an accepted plan's fields on stations hold.
use Rattle.std.proofs.Common.{◌≡◌, ◌≢◌, ◌<◌, ◌↔◌, ◌+◌, ℕ, zero, suc, Bool, true, false, ◌==◌, cond, List, [], ◌∷◌, map, take, length, get_or, Some, None, AllPairs, Contains, arith, refl, sym, ◌∙◌}
use Rattle.std.proofs.lemmas.List.{get_or-map, length-map}
use Rattle.bus_formats.specs.Accepted.{addresses}
use Rattle.bus_formats.specs.Plans.{StationData, PlanData}
use Rattle.bus_plan.specs.ItemRules.{has_address, same_address, start_missing}
use Rattle.bus_plan.proofs.ItemLaws.{Apart, addresses_apart, contains_address}
use Rattle.bus_plan.proofs.ExactItems.{none_where, no-or, eqb-apart, contains_found}

-- an address that none of the first stations has
not_before : (a : ℕ) (ss : List StationData) (m : ℕ) → ((i : ℕ) (d : StationData) → i < m → i < length ss → (get_or ss i d).terminal.address ≢ a)
    → has_address a (take m ss) ≡ false
not_before a [] zero h = refl
not_before a [] (suc m) h = refl
not_before a (s ∷ ss) zero h = refl
not_before a (s ∷ ss) (suc m) h =
    no-or (s.terminal.address == a) _ (eqb-apart s.terminal.address a (h 0 s (omega arith) (omega arith)))
    (not_before a ss m (λ i d less within. h (suc i) d (omega (arith, less)) (omega (arith, within))))

none_same : (all : List StationData) (n : ℕ) (ss : List StationData)
    → ((j : ℕ) (d : StationData) → j < length ss → has_address (get_or ss j d).terminal.address (take (n + j) all) ≡ false)
    → same_address all n ss ≡ None
none_same all n [] h = refl
none_same all n (s ∷ ss) h =
    let e : n + 0 ≡ n = omega arith in
    none_where (has_address s.terminal.address (take n all)) _ _ (rw e at (h 0 s (omega arith)))
    (none_same all (n + 1) ss (λ j d within. let f : n + 1 + j ≡ n + suc j = omega arith in rw f (h (suc j) d (omega (arith, within)))))

apart_from : (ss : List StationData) → Apart (map (λ s. s.terminal.address) ss) → same_address ss 0 ss ≡ None
apart_from ss h =
    let l : length (map (λ s. s.terminal.address) ss) ≡ length ss = length-map ss (λ s. s.terminal.address) in
    none_same ss 0 ss
    (λ j d within.
    let zero_j : 0 + j ≡ j = omega arith in
    rw zero_j
    (not_before (get_or ss j d).terminal.address ss j
    (λ i e less below same.
    h i j d.terminal.address less (omega (arith, within, l))
    (get_or-map (λ s. s.terminal.address) ss i e d.terminal.address below ∙ same ∙ sym (get_or-map (λ s. s.terminal.address) ss j d d.terminal.address within)))))

pub apart-exact : (p : PlanData) → (same_address p.stations 0 p.stations ≡ None) ↔ AllPairs (λ a b. a ≢ b) (addresses p)
apart-exact p = (addresses_apart p.stations, apart_from p.stations)

some_start : (b : Bool) (place : List ℕ) → cond b None (Some place) ≡ None → b ≡ true
some_start true place h = refl
some_start false place h = absurd (cc)

pub start-exact : (p : PlanData) → (start_missing p ≡ None) ↔ Contains (addresses p) p.start
start-exact p = (
  λ h. contains_address p.start p.stations (some_start (has_address p.start p.stations) _ h),
  λ h. let e : has_address p.start p.stations ≡ true = contains_found p.start p.stations h in rw e refl,
)
