-- Which stations have an object, and at which place it stands.
use Rattle.std.proofs.Common.{◌≡◌, ◌≢◌, ℕ, zero, suc, ◌+◌, ◌<◌, Bool, true, false, ◌==◌, List, [], ◌∷◌, length, map, take, refl, ap, sym, ◌∙◌, zero-add}
use Rattle.std.proofs.Common.{arith, subst, if◌then◌else◌, Option, Some, None}
use Rattle.std.specs.Prelude.{is_some, filter_map, slice_get, count_by, cond}
use Rattle.std.specs.List.{range_with_len}
use Rattle.std.proofs.lemmas.Bool.Decides.{nat_tests}
use Rattle.std.proofs.lemmas.Option.{same_Some, slice_get_within}
use Rattle.std.proofs.lemmas.List.{length-map, take-map}
use Rattle.std.proofs.lemmas.List.Sums.{sum_by-cons}
use Rattle.bus_formats.specs.Plans.{StationData, PlanData}
use Rattle.bus_run.specs.Deliveries.{ObjectsOf}
use Rattle.bus_run.specs.Settings.{served_at, served}
use Rattle.bus_run.specs.Kept.{named_at, named_in, count_below, object_at}
use Rattle.bus_run.proofs.RowLaws.{found-at}

-- ---- lists

-- numbers in a row
range-at : (b n a x : ℕ) → slice_get (range_with_len b n) a ≡ Some x → x ≡ b + a
range-at b zero a x at = (let no : None ≡ Some x = at in cc)
range-at b (suc n) zero x at = let is = same_Some b x at in omega (arith, is)
range-at b (suc n) (suc a) x at = let is = range-at (b + 1) n a x at in omega (arith, is)

-- a number in the row
at-range : (b n a : ℕ) → a < n → slice_get (range_with_len b n) a ≡ Some (b + a)
at-range b zero a within = absurd (omega (arith, within))
at-range b (suc n) zero within = let is : b ≡ b + 0 = omega arith in ap Some is
at-range b (suc n) (suc a) within =
    let is : b + 1 + a ≡ b + suc a = omega arith in at-range (b + 1) n a (omega (arith, within)) ∙ ap Some is

-- an element of a mapped list
pub get-map : {A B : Type 0} (f : A → B) (xs : List A) (i : ℕ) (x : A) → slice_get xs i ≡ Some x → slice_get (map f xs) i ≡ Some (f x)
get-map f [] i x here = (let no : None ≡ Some x = here in cc)
get-map f (y ∷ xs) zero x here = ap (λ z. Some (f z)) (same_Some y x here)
get-map f (y ∷ xs) (suc i) x here = get-map f xs i x here

-- an element that is found, and one that isn't
found-yes : {A B : Type 0} (P : A → Option B) (z : A) (zs : List A) (y : B) → P z ≡ Some y → filter_map P (z ∷ zs) ≡ y ∷ filter_map P zs
found-yes P z zs y is = rw is refl

found-no : {A B : Type 0} (P : A → Option B) (z : A) (zs : List A) → P z ≡ None → filter_map P (z ∷ zs) ≡ filter_map P zs
found-no P z zs is = rw is refl

-- what is found at a place stands after what is found before it
find-by : {A B : Type 0} (P : A → Option B) (z : A) (xs zs : List A) (o : Option B) (y : B) → P z ≡ o →
    slice_get (filter_map P xs) (length (filter_map P zs)) ≡ Some y → slice_get (filter_map P (z ∷ xs)) (length (filter_map P (z ∷ zs))) ≡ Some y
find-by P z xs zs None y is rest = rw (found-no P z xs is, found-no P z zs is) rest
find-by P z xs zs (Some w) y is rest = rw (found-yes P z xs w is, found-yes P z zs w is) rest

find-at : {A B : Type 0} (P : A → Option B) (xs : List A) (a : ℕ) (x : A) (y : B) → slice_get xs a ≡ Some x → P x ≡ Some y →
    slice_get (filter_map P xs) (length (filter_map P (take a xs))) ≡ Some y
find-at P [] a x y at is = (let no : None ≡ Some x = at in cc)
find-at P (z ∷ xs) zero x y at is = let first : P z ≡ Some y = ap P (same_Some z x at) ∙ is in rw (found-yes P z xs y first) refl
find-at P (z ∷ xs) (suc a) x y at is = find-by P z xs (take a xs) (P z) y refl (find-at P xs a x y at is)

-- the place of what was found
record FoundFrom {A B : Type 0} (P : A → Option B) (xs : List A) (p : ℕ) (y : B) : Type 0 where
  pub place : ℕ
  pub x : A
  pub at : slice_get xs place ≡ Some x
  pub is : P x ≡ Some y
  pub before : p ≡ length (filter_map P (take place xs))

found-later : {A B : Type 0} (P : A → Option B) (z : A) (xs : List A) (p q : ℕ) (y : B) → FoundFrom P xs p y →
    ((zs : List A) → length (filter_map P (z ∷ zs)) ≡ q + length (filter_map P zs)) → FoundFrom P (z ∷ xs) (q + p) y
found-later P z xs p q y found more = record {
  place = suc found.place;
  x = found.x;
  at = found.at;
  is = found.is;
  before = ap (λ n. q + n) found.before ∙ sym (more (take found.place xs));
}

found-by : {A B : Type 0} (P : A → Option B) (z : A) (xs : List A) (p : ℕ) (y : B) (o : Option B) → P z ≡ o →
    ((q : ℕ) → slice_get (filter_map P xs) q ≡ Some y → FoundFrom P xs q y) → slice_get (filter_map P (z ∷ xs)) p ≡ Some y → FoundFrom P (z ∷ xs) p y
found-by P z xs p y None is rest at =
    subst (λ m. FoundFrom P (z ∷ xs) m y) (zero-add p)
    (found-later P z xs p 0 y (rest p (ap (λ ys. slice_get ys p) (sym (found-no P z xs is)) ∙ at))
    (λ zs. ap length (found-no P z zs is) ∙ sym (zero-add (length (filter_map P zs)))))
found-by P z xs zero y (Some w) is rest at =
    let same : w ≡ y = same_Some w y (ap (λ ys. slice_get ys 0) (sym (found-yes P z xs w is)) ∙ at) in
    record { place = 0; x = z; at = refl; is = is ∙ ap Some same; before = refl }
found-by P z xs (suc p) y (Some w) is rest at =
    let later : FoundFrom P (z ∷ xs) (1 + p) y =
    found-later P z xs p 1 y (rest p (ap (λ ys. slice_get ys (suc p)) (sym (found-yes P z xs w is)) ∙ at))
    (λ zs. (let n : suc (length (filter_map P zs)) ≡ 1 + length (filter_map P zs) = omega arith in ap length (found-yes P z zs w is) ∙ n)) in
    let n : 1 + p ≡ suc p = omega arith in
    subst (λ m. FoundFrom P (z ∷ xs) m y) n later

found-from : {A B : Type 0} (P : A → Option B) (xs : List A) (p : ℕ) (y : B) → slice_get (filter_map P xs) p ≡ Some y → FoundFrom P xs p y
found-from P [] p y at = (let no : None ≡ Some y = at in cc)
found-from P (z ∷ xs) p y at = found-by P z xs p y (P z) refl (λ q found. found-from P xs q y found) at

-- the count of those that are found
count-by : {A B C : Type 0} (P : A → Option B) (N : A → Option C) (z : A) (zs : List A) (o : Option B) → P z ≡ o → is_some (P z) ≡ is_some (N z) →
    count_by is_some (map N zs) ≡ length (filter_map P zs) → count_by is_some (map N (z ∷ zs)) ≡ length (filter_map P (z ∷ zs))
count-by P N z zs None is same rest =
    sum_by-cons (λ x. cond (is_some x) 1 0) (N z) (map N zs) ∙ ap (λ b. cond b 1 0 + count_by is_some (map N zs)) (sym same ∙ ap is_some is)
    ∙ zero-add (count_by is_some (map N zs)) ∙ rest ∙ sym (ap length (found-no P z zs is))
count-by P N z zs (Some w) is same rest =
    let more : 1 + length (filter_map P zs) ≡ suc (length (filter_map P zs)) = omega arith in
    sum_by-cons (λ x. cond (is_some x) 1 0) (N z) (map N zs) ∙ ap (λ b. cond b 1 0 + count_by is_some (map N zs)) (sym same ∙ ap is_some is)
    ∙ ap (λ n. 1 + n) rest ∙ more ∙ sym (ap length (found-yes P z zs w is))

count-of : {A B C : Type 0} (P : A → Option B) (N : A → Option C) (zs : List A) → ((z : A) → is_some (P z) ≡ is_some (N z)) →
    count_by is_some (map N zs) ≡ length (filter_map P zs)
count-of P N [] same = refl
count-of P N (z ∷ zs) same = count-by P N z zs (P z) refl (same z) (count-of P N zs same)

-- ---- the stations

-- two different stations of the list have different addresses
abbrev pub Apart : List StationData → Type 0
Apart stations = (i j : ℕ) (s t : StationData) → slice_get stations i ≡ Some s → slice_get stations j ≡ Some t →
    s.terminal.address ≡ t.terminal.address → i ≡ j

-- a station is served where a subsystem is named
served-by : (s : StationData) (stations : List StationData) (address : ℕ) (at some : Bool) → (s.terminal.address == address) ≡ at →
    is_some s.terminal.subsystem ≡ some → is_some (served_at stations address) ≡ is_some (named_at address stations) →
    is_some (served_at (s ∷ stations) address) ≡ is_some (named_at address (s ∷ stations))
served-by s stations address false some at is rest = rw at rest
served-by s stations address true true at is rest = rw (at, is) refl
served-by s stations address true false at is rest = rw (at, is) refl

pub served-named : (stations : List StationData) (address : ℕ) → is_some (served_at stations address) ≡ is_some (named_at address stations)
served-named [] address = refl
served-named (s ∷ stations) address =
    served-by s stations address (s.terminal.address == address) (is_some s.terminal.subsystem) refl refl (served-named stations address)

-- a station that is served stands among them, has the address and names a subsystem
record ServedFrom (stations : List StationData) (address : ℕ) (s : StationData) : Type 0 where
  pub place : ℕ
  pub at : slice_get stations place ≡ Some s
  pub address_is : s.terminal.address ≡ address
  pub names : is_some s.terminal.subsystem ≡ true

served-first : (t : StationData) (stations : List StationData) (address : ℕ) (s : StationData) (at some : Bool) → (t.terminal.address == address) ≡ at →
    is_some t.terminal.subsystem ≡ some → (served_at stations address ≡ Some s → ServedFrom stations address s) →
    (if at then (if some then Some t else None) else served_at stations address) ≡ Some s → ServedFrom (t ∷ stations) address s
served-first t stations address s true true at some rest is =
    let same : t ≡ s = same_Some t s is in
    let equal : t.terminal.address ≡ address = grind (arith, nat_tests, at) in
    record {
      place = 0;
      at = ap Some same;
      address_is = ap (λ (d : StationData). d.terminal.address) (sym same) ∙ equal;
      names = ap (λ (d : StationData). is_some d.terminal.subsystem) (sym same) ∙ some;
    }
served-first t stations address s true false at some rest is = (let no : None ≡ Some s = is in cc)
served-first t stations address s false some at names rest is =
    let later = rest is in
    record { place = suc later.place; at = later.at; address_is = later.address_is; names = later.names }

served-from : (stations : List StationData) (address : ℕ) (s : StationData) → served_at stations address ≡ Some s → ServedFrom stations address s
served-from [] address s is = (let no : None ≡ Some s = is in cc)
served-from (t ∷ stations) address s is =
    served-first t stations address s (t.terminal.address == address) (is_some t.terminal.subsystem) refl refl
    (λ later. served-from stations address s later) is

-- the first station with its address that names a subsystem is served
served-here : (stations : List StationData) (i : ℕ) (s : StationData) → slice_get stations i ≡ Some s → is_some s.terminal.subsystem ≡ true →
    ((j : ℕ) (t : StationData) → j < i → slice_get stations j ≡ Some t → t.terminal.address ≢ s.terminal.address) →
    served_at stations s.terminal.address ≡ Some s
served-here [] i s at names others = (let no : None ≡ Some s = at in cc)
served-here (t ∷ stations) zero s at names others =
    let same : t ≡ s = same_Some t s at in
    let test : (t.terminal.address == s.terminal.address) ≡ true =
    ap (λ (d : StationData). d.terminal.address == s.terminal.address) same ∙ grind (arith, nat_tests) in
    let some : is_some t.terminal.subsystem ≡ true = ap (λ (d : StationData). is_some d.terminal.subsystem) same ∙ names in
    rw (test, some) (ap Some same)
served-here (t ∷ stations) (suc i) s at names others =
    let other : t.terminal.address ≢ s.terminal.address = others 0 t (omega arith) refl in
    let test : (t.terminal.address == s.terminal.address) ≡ false = grind (arith, nat_tests, other) in
    rw test (served-here stations i s at names (λ j d low found. others (suc j) d (omega (arith, low)) found))

-- ---- the objects of an accepted plan

-- how many addresses below this one name a subsystem is how many stations are served before it
pub count-served : (stations : List StationData) (a : ℕ) →
    count_below (named_in stations) a ≡ length (filter_map (served_at stations) (take a (range_with_len 0 31)))
unfolding named_in
count-served stations a =
    ap (count_by is_some) (take-map (λ n. named_at n stations) a (range_with_len 0 31))
    ∙ count-of (served_at stations) (λ n. named_at n stations) (take a (range_with_len 0 31)) (served-named stations)

-- the place of an object, by cases
place-by : (n p : ℕ) (names : Bool) → (if names then Some n else None) ≡ Some p → (names ≡ true) × (p ≡ n)
place-by n p true is = (refl, sym (same_Some n p is))
place-by n p false is = (let no : None ≡ Some p = is in cc)

-- the station of an object
there-of : (plan : PlanData) (i p : ℕ) (s : StationData) → Apart plan.stations → s.terminal.address < 31 → slice_get plan.stations i ≡ Some s →
    is_some s.terminal.subsystem ≡ true → p ≡ count_below (named_in plan.stations) s.terminal.address → slice_get (served plan) p ≡ Some s
unfolding served
there-of plan i p s apart low here names is =
    let at : slice_get (range_with_len 0 31) s.terminal.address ≡ Some s.terminal.address =
    at-range 0 31 s.terminal.address low ∙ (let zero : 0 + s.terminal.address ≡ s.terminal.address = omega arith in ap Some zero) in
    let first : served_at plan.stations s.terminal.address ≡ Some s =
    served-here plan.stations i s here names (λ j t below found equal. (let same = apart j i t s found here equal in omega (arith, below, same))) in
    ap (slice_get (filter_map (served_at plan.stations) (range_with_len 0 31))) (is ∙ count-served plan.stations s.terminal.address)
    ∙ find-at (served_at plan.stations) (range_with_len 0 31) s.terminal.address s.terminal.address s at first

-- the object of a station that is served
whole-of : (plan : PlanData) (objects : List (Option ℕ)) (p : ℕ) (s : StationData) → objects ≡ map (object_at (named_in plan.stations)) plan.stations →
    slice_get (served plan) p ≡ Some s → (i : ℕ) × (slice_get plan.stations i ≡ Some s) × (slice_get objects i ≡ Some (Some p))
unfolding served
whole-of plan objects p s are at =
    let found : FoundFrom (served_at plan.stations) (range_with_len 0 31) p s = found-from (served_at plan.stations) (range_with_len 0 31) p s at in
    let from : ServedFrom plan.stations found.x s = served-from plan.stations found.x s found.is in
    let x-is : found.x ≡ 0 + found.place = range-at 0 31 found.place found.x found.at in
    let address-is : found.place ≡ s.terminal.address = (let same = from.address_is in omega (arith, x-is, same)) in
    let count : count_below (named_in plan.stations) s.terminal.address ≡ p =
    count-served plan.stations s.terminal.address
    ∙ ap (λ n. length (filter_map (served_at plan.stations) (take n (range_with_len 0 31)))) (sym address-is) ∙ sym found.before in (
      from.place,
      from.at,
      ap (λ os. slice_get os from.place) are ∙ get-map (object_at (named_in plan.stations)) plan.stations from.place s from.at
          ∙ ap (λ b. Some (if b then Some (count_below (named_in plan.stations) s.terminal.address) else None)) from.names
          ∙ ap (λ n. Some (Some n)) count,
    )

-- the objects are those of the stations
pub objects-of : (plan : PlanData) (objects : List (Option ℕ)) → objects ≡ map (object_at (named_in plan.stations)) plan.stations → Apart plan.stations →
    ((i : ℕ) (s : StationData) → slice_get plan.stations i ≡ Some s → is_some s.terminal.subsystem ≡ true → s.terminal.address < 31) →
    ObjectsOf plan objects
objects-of plan objects are apart low =
    let object-is : (i p : ℕ) (s : StationData) → slice_get plan.stations i ≡ Some s → slice_get objects i ≡ Some (Some p) →
    (is_some s.terminal.subsystem ≡ true) × (p ≡ count_below (named_in plan.stations) s.terminal.address) =
    λ i p s here at. place-by (count_below (named_in plan.stations) s.terminal.address) p (is_some s.terminal.subsystem)
    (same_Some (object_at (named_in plan.stations) s) (Some p)
    (sym (get-map (object_at (named_in plan.stations)) plan.stations i s here) ∙ ap (λ os. slice_get os i) (sym are) ∙ at)) in
    let there : (i p : ℕ) (s : StationData) → slice_get plan.stations i ≡ Some s → slice_get objects i ≡ Some (Some p) →
    slice_get (served plan) p ≡ Some s =
    λ i p s here at. (let (names, is) = object-is i p s here at in there-of plan i p s apart (low i s here names) here names is) in
    let all : length objects ≡ length plan.stations = ap length are ∙ length-map plan.stations (object_at (named_in plan.stations)) in
    let within : (i p : ℕ) → slice_get objects i ≡ Some (Some p) → i < length plan.stations =
    λ i p at. (let below = slice_get_within objects i (Some p) at in omega (arith, below, all)) in
    record {
      all = all;
      there = there;
      whole = λ p s at. whole-of plan objects p s are at;
      apart = λ i j p at-i at-j.
          let (s, here-i) = found-at plan.stations i (within i p at-i) in
          let (t, here-j) = found-at plan.stations j (within j p at-j) in
          let same : s ≡ t = same_Some s t (sym (there i p s here-i at-i) ∙ there j p t here-j at-j) in
          apart i j s t here-i here-j (ap (λ (d : StationData). d.terminal.address) same);
    }
