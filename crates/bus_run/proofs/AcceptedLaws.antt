-- What an accepted plan says of its stations and their objects.
use Rattle.std.proofs.Common.{◌≡◌, ◌≢◌, ℕ, zero, suc, ◌+◌, ◌<◌, ◌≤◌, Bool, true, false, ◌==◌, if◌then◌else◌, List, [], ◌∷◌}
use Rattle.std.proofs.Common.{length, map, refl, ap, sym, ◌∙◌, arith, subst, inl, inr, ◌⊎◌, Option, Some, None}
use Rattle.std.specs.Prelude.{is_some, slice_get, filter_map, All, AllPairs, IsNone}
use Rattle.std.specs.List.{range_with_len}
use Rattle.std.proofs.lemmas.Bool.{cases_eq, cases_lt}
use Rattle.std.proofs.lemmas.Option.{slice_get_within, get_or_from_slice_get}
use Rattle.std.proofs.lemmas.List.Elements.{All-nil, All-cons}
use Rattle.bus_formats.specs.Accepted.{HasStationRanges, IsController, IsAccepted}
use Rattle.bus_formats.specs.Plans.{StationData, PlanData, without_subsystem, without_subsystems}
use Rattle.bus_formats.specs.declared.plan.SubsystemKind.{SubsystemKind}
use Rattle.bus_formats.specs.declared.plan.SubsystemKind.TheVariants.{Recorder, Tally}
use Rattle.bus_run.specs.Deliveries.{ObjectsOf}
use Rattle.bus_run.specs.Settings.{served_at, served}
use Rattle.bus_run.specs.Kept.{named_at, named_in, object_at, place_of, places_from, places}
use Rattle.bus_run.proofs.Gathered.{all-at}
use Rattle.bus_run.proofs.ServedLaws.{Apart, get-map, served-named, objects-of}

-- ---- the stations

-- a station and a later one have different addresses
differ : (stations : List StationData) (i j : ℕ) (s t : StationData) → AllPairs (λ a b. a ≢ b) (map (λ d. d.terminal.address) stations) →
    slice_get stations i ≡ Some s → slice_get stations j ≡ Some t → i < j → s.terminal.address ≢ t.terminal.address
differ stations i j s t pairs at-i at-j low same =
    let f : StationData → ℕ = λ d. d.terminal.address in
    let first = get_or_from_slice_get (map f stations) i s.terminal.address 0 (get-map f stations i s at-i) in
    let second = get_or_from_slice_get (map f stations) j t.terminal.address 0 (get-map f stations j t at-j) in
    let within : j < length (map f stations) = slice_get_within (map f stations) j t.terminal.address (get-map f stations j t at-j) in
    pairs i j 0 low within (first ∙ same ∙ sym second)

apart-by : (stations : List StationData) (i j : ℕ) (s t : StationData) → AllPairs (λ a b. a ≢ b) (map (λ d. d.terminal.address) stations) →
    slice_get stations i ≡ Some s → slice_get stations j ≡ Some t → s.terminal.address ≡ t.terminal.address → (i < j) ⊎ (j ≤ i) → (j < i) ⊎ (i ≤ j) → i ≡ j
apart-by stations i j s t pairs at-i at-j same (inl low) other = absurd (differ stations i j s t pairs at-i at-j low same)
apart-by stations i j s t pairs at-i at-j same (inr high) (inl low) = absurd (differ stations j i t s pairs at-j at-i low (sym same))
apart-by stations i j s t pairs at-i at-j same (inr high) (inr low) = omega (arith, high, low)

pub apart-of : (plan : PlanData) → IsAccepted plan → Apart plan.stations
apart-of plan accepted i j s t at-i at-j same = apart-by plan.stations i j s t accepted.apart at-i at-j same (cases_lt i j) (cases_lt j i)

-- a station that names a subsystem has a terminal's address
none-some : (o : Option SubsystemKind) → IsNone o → is_some o ≡ true → ⊥
none-some o none some = (let no : false ≡ true = sym none ∙ some in cc)

low-by : (plan : PlanData) (i : ℕ) (s : StationData) → IsAccepted plan → slice_get plan.stations i ≡ Some s → is_some s.terminal.subsystem ≡ true →
    (s.terminal.address ≡ 31) ⊎ (s.terminal.address ≢ 31) → s.terminal.address < 31
low-by plan i s accepted at names (inl last) =
    let controls : StationData → Type 0 = λ d. d.terminal.address ≡ 31 → IsController plan d.terminal in
    absurd (none-some s.terminal.subsystem ((all-at controls plan.stations i s accepted.controllers at) last).no_subsystem names)
low-by plan i s accepted at names (inr other) =
    let few = (all-at HasStationRanges plan.stations i s accepted.ranges at).terminal.address in
    omega (arith, few, other)

pub address-low : (plan : PlanData) (i : ℕ) (s : StationData) → IsAccepted plan → slice_get plan.stations i ≡ Some s → is_some s.terminal.subsystem ≡ true →
    s.terminal.address < 31
address-low plan i s accepted at names = low-by plan i s accepted at names (cases_eq s.terminal.address 31)

-- no address is above 31
pub addresses-few : (plan : PlanData) (n : ℕ) → IsAccepted plan → n ≡ 31 → All (λ s. s.terminal.address ≤ n) plan.stations
addresses-few plan n accepted is k d within = let few = (accepted.ranges k d within).terminal.address in omega (arith, few, is)

-- the objects are those of the stations of an accepted plan
pub objects-accepted : (plan : PlanData) (objects : List (Option ℕ)) (named : List (Option SubsystemKind)) → IsAccepted plan →
    named ≡ named_in plan.stations → objects ≡ map (object_at named) plan.stations → ObjectsOf plan objects
objects-accepted plan objects named accepted names are =
    objects-of plan objects (are ∙ ap (λ ns. map (object_at ns) plan.stations) names) (apart-of plan accepted)
    (λ i s at some. address-low plan i s accepted at some)

-- ---- the places of the objects

-- as many are named as are served
places-by : {A : Type 0} (P : ℕ → Option A) (f : ℕ → Option SubsystemKind) (b z : ℕ) (zs : List ℕ) (o : Option A) (k : Option SubsystemKind) → P z ≡ o →
    f z ≡ k → is_some o ≡ is_some k → length (places_from (suc b) (map f zs)) ≡ length (filter_map P zs) →
    length (places_from b (map f (z ∷ zs))) ≡ length (filter_map P (z ∷ zs))
places-by P f b z zs None None found names same rest = rw (found, names) rest
places-by P f b z zs (Some s) (Some kind) found names same rest = rw (found, names) (ap suc rest)
places-by P f b z zs None (Some kind) found names same rest = (let no : false ≡ true = same in cc)
places-by P f b z zs (Some s) None found names same rest = (let no : true ≡ false = same in cc)

places-length-by : {A : Type 0} (P : ℕ → Option A) (f : ℕ → Option SubsystemKind) (b : ℕ) (zs : List ℕ) → ((z : ℕ) → is_some (P z) ≡ is_some (f z)) →
    length (places_from b (map f zs)) ≡ length (filter_map P zs)
places-length-by P f b [] same = refl
places-length-by P f b (z ∷ zs) same = places-by P f b z zs (P z) (f z) refl refl (same z) (places-length-by P f (suc b) zs same)

pub places-length : (plan : PlanData) → length (places plan) ≡ length (served plan)
unfolding places named_in served
places-length plan = places-length-by (served_at plan.stations) (λ a. named_at a plan.stations) 0 (range_with_len 0 31) (served-named plan.stations)

-- the place of an address
place-low : (kind : SubsystemKind) (address n : ℕ) → address < 31 → 62 ≤ n → place_of kind address < n
place-low Recorder address n low few = omega (arith, low, few)
place-low Tally address n low few = omega (arith, low, few)

places-low-by : (f : ℕ → Option SubsystemKind) (b m n : ℕ) (k : Option SubsystemKind) → f b ≡ k → b < 31 → 62 ≤ n →
    All (λ p. p < n) (places_from (suc b) (map f (range_with_len (b + 1) m))) → All (λ p. p < n) (places_from b (map f (b ∷ range_with_len (b + 1) m)))
places-low-by f b m n None is low few rest = rw is rest
places-low-by f b m n (Some kind) is low few rest =
    rw is (All-cons (λ p. p < n) (place_of kind b) (places_from (suc b) (map f (range_with_len (b + 1) m))) (place-low kind b n low few) rest)

places-low : (f : ℕ → Option SubsystemKind) (b m n : ℕ) → b + m ≤ 31 → 62 ≤ n → All (λ p. p < n) (places_from b (map f (range_with_len b m)))
places-low f b zero n within few = All-nil (λ p. p < n)
places-low f b (suc m) n within few =
    let next : b + 1 ≡ suc b = omega arith in
    places-low-by f b m n (f b) refl (omega (arith, within)) few
    (subst (λ c. All (λ p. p < n) (places_from c (map f (range_with_len (b + 1) m)))) next (places-low f (b + 1) m n (omega (arith, within)) few))

-- 62 objects are enough
pub places-below : (plan : PlanData) (n : ℕ) → 62 ≤ n → All (λ p. p < n) (places plan)
unfolding places named_in
places-below plan n few = places-low (λ a. named_at a plan.stations) 0 31 n (omega arith) few

-- ---- where no station names a subsystem

either-none : {A : Type 0} (b : Bool) (o : Option A) → o ≡ None → (if b then None else o) ≡ None
either-none true o none = refl
either-none false o none = none

named-without : (stations : List StationData) (a : ℕ) → named_at a (map without_subsystem stations) ≡ None
named-without [] a = refl
named-without (s ∷ stations) a = either-none (s.terminal.address == a) (named_at a (map without_subsystem stations)) (named-without stations a)

served-at-without : (stations : List StationData) (a : ℕ) → served_at (map without_subsystem stations) a ≡ None
served-at-without [] a = refl
served-at-without (s ∷ stations) a =
    either-none (s.terminal.address == a) (served_at (map without_subsystem stations) a) (served-at-without stations a)

places-of-none : (f : ℕ → Option SubsystemKind) (b : ℕ) (zs : List ℕ) → ((z : ℕ) → f z ≡ None) → places_from b (map f zs) ≡ []
places-of-none f b [] none = refl
places-of-none f b (z ∷ zs) none = rw (none z) (places-of-none f (suc b) zs none)

found-none : {A : Type 0} (P : ℕ → Option A) (zs : List ℕ) → ((z : ℕ) → P z ≡ None) → filter_map P zs ≡ []
found-none P [] none = refl
found-none P (z ∷ zs) none = rw (none z) (found-none P zs none)

-- there are no places
pub places-without : (plan : PlanData) → places (without_subsystems plan) ≡ []
unfolding places named_in
places-without plan =
    places-of-none (λ a. named_at a (map without_subsystem plan.stations)) 0 (range_with_len 0 31) (λ a. named-without plan.stations a)

-- and no stations with an object
pub served-without : (plan : PlanData) → served (without_subsystems plan) ≡ []
unfolding served
served-without plan = found-none (served_at (map without_subsystem plan.stations)) (range_with_len 0 31) (λ a. served-at-without plan.stations a)
