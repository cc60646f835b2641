-- The stations are made one after the other.
use Rattle.std.proofs.Common.{◌≡◌, ℕ, zero, suc, ◌<◌, ◌≤◌, Bool, ◌==◌, List, [], ◌∷◌, ◌++◌, length, refl, ap, sym, ◌∙◌, arith, subst, inl, inr, ◌⊎◌, Some}
use Rattle.std.specs.Prelude.{slice_get}
use Rattle.std.proofs.lemmas.Bool.{cases_lt}
use Rattle.std.proofs.lemmas.Option.{same_Some, slice_get_within}
use Rattle.std.proofs.lemmas.List.{length-append}
use Rattle.bus_line.specs.declared.cutter.TheConstants.{LAG}
use Rattle.bus_formats.specs.Plans.{StationData, PlanData}
use Rattle.bus_model.specs.Starts.{starts}
use Rattle.bus_station.specs.StationStands.{StationStands}
use Rattle.bus_station.specs.declared.station.Station.{Station}

-- an element that was added last, or one before it
get-before : {A : Type 0} (xs : List A) (y : A) (i : ℕ) → i < length xs → slice_get (xs ++ y ∷ []) i ≡ slice_get xs i
get-before [] y i within = absurd (omega (arith, within))
get-before (x ∷ xs) y zero within = refl
get-before (x ∷ xs) y (suc i) within = get-before xs y i (omega (arith, within))

-- the last element
get-last : {A : Type 0} (xs : List A) (y : A) → slice_get (xs ++ y ∷ []) (length xs) ≡ Some y
get-last [] y = refl
get-last (x ∷ xs) y = get-last xs y

-- a station of a copied plan is one of the plan
pub made-one : (plan : PlanData) (s item copied : StationData) (start : ℕ) (b : Bool) (value : Station) → StationStands LAG copied b [] [] value [] →
    copied ≡ item → item ≡ s → b ≡ (item.terminal.address == start) → plan.start ≡ start → StationStands LAG s (starts plan s) [] [] value []
made-one plan s item copied start b value stands same is by at =
    let starts-so : b ≡ (s.terminal.address == plan.start) = by ∙ ap (λ (d : StationData). d.terminal.address == start) is ∙ ap
    (λ n. s.terminal.address == n) (sym at) in
    subst (λ x. StationStands LAG s x [] [] value []) starts-so (subst (λ d. StationStands LAG d b [] [] value []) (same ∙ is) stands)

-- each station after one more was made, by cases
made-by : (plan : PlanData) (made : List Station) (stations : List StationData) (new : Station) (i : ℕ) (s : StationData) (value : Station) →
    ((i : ℕ) (s : StationData) (value : Station) → slice_get stations i ≡ Some s → slice_get made i ≡ Some value → StationStands LAG s
    (starts plan s) [] [] value []) →
    ((s : StationData) → slice_get stations (length made) ≡ Some s → StationStands LAG s (starts plan s) [] [] new []) →
    slice_get stations i ≡ Some s → slice_get (made ++ new ∷ []) i ≡ Some value → (i < length made) ⊎ (length made ≤ i) → StationStands LAG s
    (starts plan s) [] [] value []
made-by plan made stations new i s value before last here at (inl low) = before i s value here (sym (get-before made new i low) ∙ at)
made-by plan made stations new i s value before last here at (inr high) =
    let within : i < length (made ++ new ∷ []) = slice_get_within (made ++ new ∷ []) i value at in
    let count = length-append made (new ∷ []) in
    let place : i ≡ length made = omega (arith, high, within, count) in
    let is : new ≡ value = same_Some new value (sym (get-last made new) ∙ ap (slice_get (made ++ new ∷ [])) (sym place) ∙ at) in
    subst (λ v. StationStands LAG s (starts plan s) [] [] v []) is (last s (ap (slice_get stations) (sym place) ∙ here))

-- each station after one more was made
pub made-more : (plan : PlanData) (made next : List Station) (stations : List StationData) (new : Station) (i : ℕ) (s : StationData) (value : Station) →
    ((i : ℕ) (s : StationData) (value : Station) → slice_get stations i ≡ Some s → slice_get made i ≡ Some value → StationStands LAG s
    (starts plan s) [] [] value []) →
    ((s : StationData) → slice_get stations (length made) ≡ Some s → StationStands LAG s (starts plan s) [] [] new []) → next ≡ made ++ new ∷ [] →
    slice_get stations i ≡ Some s → slice_get next i ≡ Some value → StationStands LAG s (starts plan s) [] [] value []
made-more plan made next stations new i s value before last is here at =
    made-by plan made stations new i s value before last here (ap (λ xs. slice_get xs i) (sym is) ∙ at) (cases_lt i (length made))
