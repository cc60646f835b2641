-- The place of each station's object.
use Rattle.std.proofs.Common.{◌≡◌, ℕ, zero, suc, ◌+◌, Bool, true, false, ◌==◌, List, [], ◌∷◌, map, refl, ap, sym, ◌∙◌, arith, subst, Option, Some, None}
use Rattle.std.specs.Prelude.{slice_get, filter_map, ⊤}
use Rattle.std.specs.List.{range_with_len}
use Rattle.std.proofs.lemmas.Bool.Decides.{nat_tests}
use Rattle.std.proofs.lemmas.Option.{same_Some}
use Rattle.bus_formats.specs.Plans.{StationData, PlanData}
use Rattle.bus_formats.specs.declared.plan.SubsystemKind.{SubsystemKind}
use Rattle.bus_run.specs.Settings.{served_at, served}
use Rattle.bus_run.specs.Kept.{named_at, named_in, place_of, places_from, places}
use Rattle.bus_run.specs.Places.{IsPlaceOf}

-- what is found at an address: the station that is served and the kind that is named, or neither
abbrev AtAddress : Option StationData → Option SubsystemKind → ℕ → Type 0
AtAddress None None address = ⊤
AtAddress None (Some kind) address = ⊥
AtAddress (Some s) None address = ⊥
AtAddress (Some s) (Some kind) address = (s.terminal.subsystem ≡ Some kind) × (s.terminal.address ≡ address)

at-by : (s : StationData) (stations : List StationData) (address : ℕ) (at : Bool) (kind : Option SubsystemKind) → (s.terminal.address == address) ≡ at →
    s.terminal.subsystem ≡ kind → AtAddress (served_at stations address) (named_at address stations) address →
    AtAddress (served_at (s ∷ stations) address) (named_at address (s ∷ stations)) address
at-by s stations address false kind at is rest = rw at rest
at-by s stations address true None at is rest = rw (at, is) tt
at-by s stations address true (Some kind) at is rest = rw (at, is) (refl, grind (arith, nat_tests, at))

at-address : (stations : List StationData) (address : ℕ) → AtAddress (served_at stations address) (named_at address stations) address
at-address [] address = tt
at-address (s ∷ stations) address = at-by s stations address (s.terminal.address == address) s.terminal.subsystem refl refl (at-address stations address)

-- an address that is served, and one that isn't
kept : (P : ℕ → Option StationData) (z : ℕ) (zs : List ℕ) (s : StationData) → P z ≡ Some s → filter_map P (z ∷ zs) ≡ s ∷ filter_map P zs
kept P z zs s is = rw is refl

passed : (P : ℕ → Option StationData) (z : ℕ) (zs : List ℕ) → P z ≡ None → filter_map P (z ∷ zs) ≡ filter_map P zs
passed P z zs is = rw is refl

-- the first address, and those after it
first-by : (P : ℕ → Option StationData) (f : ℕ → Option SubsystemKind) (b p : ℕ) (zs : List ℕ) (s : StationData) (o : Option StationData)
    (k : Option SubsystemKind) → P b ≡ o → f b ≡ k → AtAddress o k b →
    ((q : ℕ) → slice_get (filter_map P zs) q ≡ Some s → IsPlaceOf s (slice_get (places_from (suc b) (map f zs)) q)) →
    slice_get (filter_map P (b ∷ zs)) p ≡ Some s → IsPlaceOf s (slice_get (places_from b (map f (b ∷ zs))) p)
first-by P f b p zs s None None found names at rest is = rw names (rest p (ap (λ ys. slice_get ys p) (sym (passed P b zs found)) ∙ is))
first-by P f b zero zs s (Some t) (Some kind) found names at rest is =
    let same : t ≡ s = same_Some t s (ap (λ ys. slice_get ys 0) (sym (kept P b zs t found)) ∙ is) in
    rw names record {
      kind = kind;
      names = ap (λ (d : StationData). d.terminal.subsystem) (sym same) ∙ at.0;
      at = ap (λ n. Some (place_of kind n)) (sym (ap (λ (d : StationData). d.terminal.address) (sym same) ∙ at.1));
    }
first-by P f b (suc p) zs s (Some t) (Some kind) found names at rest is =
    rw names (rest p (ap (λ ys. slice_get ys (suc p)) (sym (kept P b zs t found)) ∙ is))
first-by P f b p zs s None (Some kind) found names at rest is = absurd at
first-by P f b p zs s (Some t) None found names at rest is = absurd at

place-by : (P : ℕ → Option StationData) (f : ℕ → Option SubsystemKind) (b n p : ℕ) (s : StationData) → ((a : ℕ) → AtAddress (P a) (f a) a) →
    slice_get (filter_map P (range_with_len b n)) p ≡ Some s → IsPlaceOf s (slice_get (places_from b (map f (range_with_len b n))) p)
place-by P f b zero p s at is = (let no : None ≡ Some s = is in cc)
place-by P f b (suc n) p s at is =
    let next : b + 1 ≡ suc b = omega arith in
    first-by P f b p (range_with_len (b + 1) n) s (P b) (f b) refl refl (at b)
    (λ q found. subst (λ c. IsPlaceOf s (slice_get (places_from c (map f (range_with_len (b + 1) n))) q)) next (place-by P f (b + 1) n q s at found)) is

-- the place of each object is that of its station's address
pub place-at : (plan : PlanData) (p : ℕ) (s : StationData) → slice_get (served plan) p ≡ Some s → IsPlaceOf s (slice_get (places plan) p)
unfolding places named_in served
place-at plan p s is = place-by (served_at plan.stations) (λ a. named_at a plan.stations) 0 31 p s (at-address plan.stations) is
