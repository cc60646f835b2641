-- The stations hear a tick one after the other.
use Rattle.std.proofs.Common.{◌≡◌, ◌≢◌, ℕ, zero, suc, ◌+◌, ◌<◌, ◌≤◌, true, false, nat_lt, List, [], ◌∷◌, ◌++◌, length}
use Rattle.std.proofs.Common.{take, refl, ap, sym, ◌∙◌, arith, add-one, append-nil, append_assoc, subst, inl, inr, ◌⊎◌, Some, None}
use Rattle.std.specs.Prelude.{flat_map, filter, map, replicate, slice_get, get_or, set, vec_capacity, option_map, option_to_list, Option, Bool, if◌then◌else◌, Result, Ok, Err, IfOk}
use Rattle.std.proofs.lemmas.Bool.{cases_eq, cases_lt}
use Rattle.std.proofs.lemmas.Bool.Decides.{nat_tests}
use Rattle.std.proofs.lemmas.Option.{slice_get_within, same_Some, slice_get_read, slice_get-map, get_or_from_slice_get}
use Rattle.std.proofs.lemmas.List.{length-set}
use Rattle.std.proofs.lemmas.Grind.{flat_map-append}
use Rattle.std.proofs.lemmas.List.Concat.{flat_map-cons}
use Rattle.bus_base.specs.declared.samples.Pair.{Pair}
use Rattle.bus_line.specs.declared.cutter.TheConstants.{LAG}
use Rattle.bus_formats.specs.Plans.{StationData, PlanData}
use Rattle.bus_formats.specs.declared.log.Attempt.{Attempt}
use Rattle.bus_formats.specs.declared.log.Delivery.{Delivery}
use Rattle.bus_model.specs.Starts.{starts}
use Rattle.bus_model.specs.Memory.{TimedLoad}
use Rattle.bus_model.specs.Control.{OutsideTake, course_after}
use Rattle.bus_model.specs.World.{is_present}
use Rattle.bus_model.specs.WorldLog.{attempt_at, ended_by, attempts}
use Rattle.bus_receiver.specs.Moments.{ReceiverStands}
use Rattle.bus_receiver.specs.declared.cutters.Cutters.{Cutters}
use Rattle.bus_receiver.specs.declared.receiver.Receiver.{Receiver}
use Rattle.bus_station.specs.Listening.{InStep}
use Rattle.bus_station.specs.StationStands.{StationKeeps}
use Rattle.bus_station.specs.Told as told
use Rattle.bus_station.specs.Told.{ended_newest, delivered_newest}
use Rattle.bus_station.specs.declared.station.Station.{Station}
use Rattle.bus_run.specs.Deliveries.{delivered_in, taken_by, taken_in, delivering, ObjectsIn, ObjectsOf}
use Rattle.bus_run.specs.Parts.{presence}
use Rattle.bus_run.specs.Settings.{Setting, alone}
use Rattle.bus_run.specs.StationRows.{RowKeeps, RowStands, RowCalls, RowHears, KeepsAt, ended_of, ended_in}
use Rattle.bus_run.specs.declared.taken.TakenBlock.{TakenBlock}
use Rattle.bus_run.specs.declared.station_row.StationRow.{StationRow}

-- ---- lists

-- the elements before a place, and the one there
pub take-next : {A : Type 0} (xs : List A) (i : ℕ) (x : A) → slice_get xs i ≡ Some x → take (suc i) xs ≡ take i xs ++ x ∷ []
take-next [] i x is = (let no : None ≡ Some x = is in cc)
take-next (y ∷ xs) zero x is = ap (λ z. z ∷ []) (same_Some y x is)
take-next (y ∷ xs) (suc i) x is = ap (λ zs. y ∷ zs) (take-next xs i x is)

-- what was set
pub set-same : {A : Type 0} (xs : List A) (i : ℕ) (y : A) → i < length xs → slice_get (set xs i y) i ≡ Some y
set-same [] i y within = absurd (omega (arith, within))
set-same (x ∷ xs) zero y within = refl
set-same (x ∷ xs) (suc i) y within = set-same xs i y (omega (arith, within))

-- what was not
pub set-other : {A : Type 0} (xs : List A) (i j : ℕ) (y : A) → j ≢ i → slice_get (set xs i y) j ≡ slice_get xs j
set-other [] i j y other = refl
set-other (x ∷ xs) zero zero y other = absurd (other refl)
set-other (x ∷ xs) zero (suc j) y other = refl
set-other (x ∷ xs) (suc i) zero y other = refl
set-other (x ∷ xs) (suc i) (suc j) y other = set-other xs i j y (λ same. other (ap suc same))

-- all elements
pub take-all : {A : Type 0} (xs : List A) → take (length xs) xs ≡ xs
take-all [] = refl
take-all (x ∷ xs) = ap (λ ys. x ∷ ys) (take-all xs)

-- one element alone
pub flat_map-one : {A B : Type 0} (f : A → List B) (x : A) → flat_map f (x ∷ []) ≡ f x
flat_map-one f x = flat_map-cons f x [] ∙ append-nil (f x)

-- there is an element at a place within
pub found-at : {A : Type 0} (xs : List A) (i : ℕ) → i < length xs → (x : A) × (slice_get xs i ≡ Some x)
found-at [] i within = absurd (omega (arith, within))
found-at (x ∷ xs) zero within = (x, refl)
found-at (x ∷ xs) (suc i) within = found-at xs i (omega (arith, within))

-- ---- where every station is present

-- no station is absent
pub all-present : (stations : List StationData) → filter (is_present []) stations ≡ stations
all-present [] = refl
all-present (s ∷ stations) = ap (λ ss. s ∷ ss) (all-present stations)

-- both look for the newest attempt
ended-found : (w : Setting) (address tick : ℕ) (ended : List Attempt) →
    told.ended_in address tick ended ≡ attempt_at LAG w.plan w.loads w.outside w.absent address tick ended
ended-found w address tick [] = refl
ended-found w address tick (attempt ∷ ended) = refl

-- an absent station ended none
ended-by : (w : Setting) (shown : Pair) (past : List Pair) (s : StationData) (here : Bool) (rest : List StationData) →
    (if here then ended_newest LAG s (starts w.plan s) w.loads w.outside (shown ∷ past) else [])
    ++ flat_map (ended_by LAG w.plan w.loads w.outside w.absent (shown ∷ past) (length past)) rest
    ≡ flat_map (ended_by LAG w.plan w.loads w.outside w.absent (shown ∷ past) (length past)) (if here then s ∷ rest else rest)
ended-by w shown past s false rest = refl
ended-by w shown past s true rest =
    ap (λ xs. xs ++ flat_map (ended_by LAG w.plan w.loads w.outside w.absent (shown ∷ past) (length past)) rest)
    (ended-found w s.terminal.address (length past) (course_after LAG s (starts w.plan s) w.loads w.outside (shown ∷ past)).ended)
    ∙ sym (flat_map-cons (ended_by LAG w.plan w.loads w.outside w.absent (shown ∷ past) (length past)) s rest)

-- one more station is present, or not
present-next : (w : Setting) (s : StationData) (stations : List StationData) →
    filter (is_present w.absent) (s ∷ stations)
    ≡ (if is_present w.absent s then s ∷ filter (is_present w.absent) stations else filter (is_present w.absent) stations)
present-next w s stations = refl

-- the attempts that the stations tell are those that the log looks for
ended-same : (w : Setting) (shown : Pair) (past : List Pair) (stations : List StationData) →
    flat_map (ended_of w (shown ∷ past)) stations
    ≡ flat_map (ended_by LAG w.plan w.loads w.outside w.absent (shown ∷ past) (length past)) (filter (is_present w.absent) stations)
ended-same w shown past [] = refl
ended-same w shown past (s ∷ stations) =
    flat_map-cons (ended_of w (shown ∷ past)) s stations
    ∙ ap (λ xs. ended_of w (shown ∷ past) s ++ xs) (ended-same w shown past stations)
    ∙ ended-by w shown past s (is_present w.absent s) (filter (is_present w.absent) stations)
    ∙ ap (flat_map (ended_by LAG w.plan w.loads w.outside w.absent (shown ∷ past) (length past))) (sym (present-next w s stations))

-- the attempts after a tick are those before it and those that ended in it
pub attempts-next : (w : Setting) (shown : Pair) (past : List Pair) →
    attempts LAG w.plan w.loads w.outside w.absent (shown ∷ past) ≡ attempts LAG w.plan w.loads w.outside w.absent past ++ ended_in w (shown ∷ past)
unfolding attempts
attempts-next w shown past =
    ap (λ xs. attempts LAG w.plan w.loads w.outside w.absent past ++ xs) (sym (ended-same w shown past w.plan.stations))

-- no attempt before the first tick
pub attempts-none : (plan : PlanData) → attempts LAG plan [] [] [] [] ≡ []
unfolding attempts
attempts-none plan = refl

-- no tick with a delivery before the first
pub delivering-none : (plan : PlanData) → delivering plan [] ≡ 0
unfolding delivering
delivering-none plan = refl

-- ---- one station after the other

-- a number is not below itself
pub not-below : (n : ℕ) → nat_lt n n ≡ false
not-below n = grind (arith, nat_tests)

-- none is below 0
pub none-below : (n : ℕ) → nat_lt n 0 ≡ false
none-below n = grind (arith, nat_tests)

-- it is below the next
pub below-more : (n : ℕ) → nat_lt n (n + 1) ≡ true
below-more n = grind (arith, nat_tests)

-- below the next, for another number
below-by : (i n : ℕ) → i ≢ n → (i < n) ⊎ (n ≤ i) → nat_lt i (n + 1) ≡ nat_lt i n
below-by i n other (inl low) = (let a : nat_lt i (n + 1) ≡ true = grind (arith, nat_tests, low) in let b : nat_lt i n ≡ true = grind (
  arith,
  nat_tests,
  low,
) in a ∙ sym b)
below-by i n other (inr high) =
    let above : n < i = omega (arith, high, other) in
    let a : nat_lt i (n + 1) ≡ false = grind (arith, nat_tests, above) in
    let b : nat_lt i n ≡ false = grind (arith, nat_tests, above) in
    a ∙ sym b

-- another number is below the next as below it
pub below-other : (i n : ℕ) → i ≢ n → nat_lt i (n + 1) ≡ nat_lt i n
below-other i n other = below-by i n other (cases_lt i n)

-- the station at the place hasn't heard the tick yet
pub stands-before : (w : Setting) (found : List Attempt) (place : ℕ) (before : Cutters) (shown : Pair) (past : List Pair) (row : StationRow) (s : StationData)
    (value : Station) →
    RowHears w found place before shown past row → slice_get w.plan.stations place ≡ Some s → slice_get row.stations.items place ≡ Some value →
    is_present w.absent s ≡ true →
    StationKeeps LAG s (starts w.plan s) w.loads w.outside value past × InStep LAG s (starts w.plan s) w.loads w.outside value before past
stands-before w found place before shown past row s value hears here at present =
    subst (KeepsAt w before row.receiver.cutters shown past s value) (not-below place) (hears.each place s value here at present)

-- what the flags say of the station at a place
pub present-at : (w : Setting) (present : List Bool) (place : ℕ) (s : StationData) → present ≡ presence w → slice_get w.plan.stations place ≡ Some s →
    get_or present place false ≡ is_present w.absent s
present-at w present place s are at =
    ap (λ xs. get_or xs place false) are
    ∙ get_or_from_slice_get (presence w) place (is_present w.absent s) false
    (slice_get-map (is_present w.absent) w.plan.stations place ∙ ap (option_map (is_present w.absent)) at)

-- the station at a place of the plan, and whether it is present
pub record There (w : Setting) (place : ℕ) (here : Bool) : Type 0 where
  pub own : StationData
  pub at : slice_get w.plan.stations place ≡ Some own
  pub present : is_present w.absent own ≡ here

pub there-of : (w : Setting) (found : List Attempt) (place : ℕ) (before : Cutters) (shown : Pair) (past : List Pair) (row : StationRow) (here : Bool) →
    place < length row.stations.items → here ≡ get_or row.present.items place here → RowHears w found place before shown past row → There w place here
there-of w found place before shown past row here within is hears =
    let (s, at) = found-at w.plan.stations place (let all = hears.all in omega (arith, all, within)) in
    record {
      own = s;
      at = at;
      present = sym (is ∙ ap (λ xs. get_or xs place here) hears.present_are
          ∙ get_or_from_slice_get (presence w) place (is_present w.absent s) here
          (slice_get-map (is_present w.absent) w.plan.stations place ∙ ap (option_map (is_present w.absent)) at));
    }

-- the station at the place, which is present and hasn't heard the tick yet
pub record Here (w : Setting) (place : ℕ) (before : Cutters) (past : List Pair) (value : Station) : Type 0 where
  pub own : StationData
  pub at : slice_get w.plan.stations place ≡ Some own
  pub present : is_present w.absent own ≡ true
  pub stands : StationKeeps LAG own (starts w.plan own) w.loads w.outside value past
  pub in_step : InStep LAG own (starts w.plan own) w.loads w.outside value before past

pub here-of : (w : Setting) (found : List Attempt) (place : ℕ) (before : Cutters) (shown : Pair) (past : List Pair) (row : StationRow) (value : Station)
    (here : Bool) → place < length row.stations.items → value ≡ get_or row.stations.items place value → here ≡ get_or row.present.items place here →
    here ≡ true → RowHears w found place before shown past row → Here w place before past value
here-of w found place before shown past row value here within is present so hears =
    let there = there-of w found place before shown past row here within present hears in
    let both = stands-before w found place before shown past row there.own value hears there.at
    (slice_get_read row.stations.items (length row.stations.items) place value refl within is) (there.present ∙ so) in
    record { own = there.own; at = there.at; present = there.present ∙ so; stands = both.0; in_step = both.1 }

-- each station after one more heard the tick
each-more : (w : Setting) (found : List Attempt) (place : ℕ) (before : Cutters) (shown : Pair) (past : List Pair) (row : StationRow) (own : StationData)
    (new : Station) → place < length row.stations.items →
    RowHears w found place before shown past row → slice_get w.plan.stations place ≡ Some own →
    (is_present w.absent own ≡ true → KeepsAt w before row.receiver.cutters shown past own new true) →
    (i : ℕ) (s : StationData) (value : Station) → (i ≡ place) ⊎ (i ≢ place) → slice_get w.plan.stations i ≡ Some s →
    slice_get (set row.stations.items place new) i ≡ Some value → is_present w.absent s ≡ true →
    KeepsAt w before row.receiver.cutters shown past s value (nat_lt i (place + 1))
each-more w found place before shown past row own new within hears here stands i s value (inl same) there at present =
    let at-place : slice_get (set row.stations.items place new) place ≡ Some value = subst (λ j. slice_get
    (set row.stations.items place new) j ≡ Some value) same at in
    let new-is : new ≡ value = same_Some new value (sym (set-same row.stations.items place new within) ∙ at-place) in
    let own-is : own ≡ s = same_Some own s (sym here ∙ subst (λ j. slice_get w.plan.stations j ≡ Some s) same there) in
    let own-present : is_present w.absent own ≡ true = ap (is_present w.absent) own-is ∙ present in
    let stands-new : KeepsAt w before row.receiver.cutters shown past s value true =
    subst (λ v. KeepsAt w before row.receiver.cutters shown past s v true) new-is (subst (λ d. KeepsAt w before row.receiver.cutters shown past d new
    true) own-is (stands own-present)) in
    subst (KeepsAt w before row.receiver.cutters shown past s value) (sym (ap (λ n. nat_lt n (place + 1)) same ∙ below-more place)) stands-new
each-more w found place before shown past row own new within hears here stands i s value (inr other) there at present =
    subst (KeepsAt w before row.receiver.cutters shown past s value) (sym (below-other i place other))
    (hears.each i s value there (sym (set-other row.stations.items place i new other) ∙ at) present)

-- a list of what the stations before the place bring, with that of one station more
more-of : {A : Type 0} (f : StationData → List A) (stations : List StationData) (place : ℕ) (own : StationData) → slice_get stations place ≡ Some own →
    flat_map f (take place stations) ++ f own ≡ flat_map f (take (place + 1) stations)
more-of f stations place own here =
    ap (λ xs. flat_map f (take place stations) ++ xs) (sym (flat_map-one f own))
    ∙ sym (flat_map-append f (take place stations) (own ∷ []))
    ∙ ap (flat_map f) (sym (take-next stations place own here) ∙ ap (λ n. take n stations) (sym (add-one place)))

-- the station at the place has heard it too
pub hears-more : (w : Setting) (found : List Attempt) (place : ℕ) (before : Cutters) (shown : Pair) (past : List Pair) (row next : StationRow)
    (own : StationData) (new : Station) →
    place < length row.stations.items → RowHears w found place before shown past row → slice_get w.plan.stations place ≡ Some own →
    (is_present w.absent own ≡ true → StationKeeps LAG own (starts w.plan own) w.loads w.outside new (shown ∷ past)
    × InStep LAG own (starts w.plan own) w.loads w.outside new row.receiver.cutters (shown ∷ past)) →
    next.stations.items ≡ set row.stations.items place new → next.present ≡ row.present →
    next.attempts.items ≡ row.attempts.items ++ ended_of w (shown ∷ past) own → next.taken.items ≡ row.taken.items ++ taken_by w (shown ∷ past) own →
    next.objects ≡ row.objects → next.receiver ≡ row.receiver →
    RowHears w found (place + 1) before shown past next
hears-more w found place before shown past row next own new within hears here stands is present ended taken objects receiver = record {
  all = ap length is ∙ length-set row.stations.items place new ∙ hears.all;
  present_are = ap (λ v. v.items) present ∙ hears.present_are;
  each = λ i s value there at here-now.
      subst (λ (r : Receiver). KeepsAt w before r.cutters shown past s value (nat_lt i (place + 1))) (sym receiver)
      (each-more w found place before shown past row own new within hears here stands i s value (cases_eq i place) there
      (ap (λ xs. slice_get xs i) (sym is) ∙ at) here-now);
  attempts_are = ended ∙ ap (λ xs. xs ++ ended_of w (shown ∷ past) own) hears.attempts_are
      ∙ append_assoc found (flat_map (ended_of w (shown ∷ past)) (take place w.plan.stations)) (ended_of w (shown ∷ past) own)
      ∙ ap (λ xs. found ++ xs) (more-of (ended_of w (shown ∷ past)) w.plan.stations place own here);
  taken_are = taken ∙ ap (λ xs. xs ++ taken_by w (shown ∷ past) own) hears.taken_are
      ∙ more-of (taken_by w (shown ∷ past)) w.plan.stations place own here;
  objects = subst (λ v. ObjectsIn w v.items) (sym objects) hears.objects;
}

-- an absent station takes nothing
pub absent-delivers : (w : Setting) (past : List Pair) (s : StationData) → is_present w.absent s ≡ false → delivered_in w past s ≡ None
absent-delivers w past s absent = ap (λ b. if b then delivered_newest LAG s (starts w.plan s) w.loads w.outside past else None) absent

-- one that is present takes what its terminal takes, and ends what its controller ends
pub present-delivers : (w : Setting) (past : List Pair) (s : StationData) → is_present w.absent s ≡ true →
    delivered_in w past s ≡ delivered_newest LAG s (starts w.plan s) w.loads w.outside past
present-delivers w past s present = ap (λ b. if b then delivered_newest LAG s (starts w.plan s) w.loads w.outside past else None) present

pub present-ends : (w : Setting) (past : List Pair) (s : StationData) → is_present w.absent s ≡ true →
    ended_of w past s ≡ ended_newest LAG s (starts w.plan s) w.loads w.outside past
present-ends w past s present = ap (λ b. if b then ended_newest LAG s (starts w.plan s) w.loads w.outside past else []) present

-- what was taken under an address
abbrev pub taken-list : ℕ → Option Delivery → List TakenBlock
taken-list address o = map (λ d. record { address = address; delivery = d }) (option_to_list o)

-- an absent station ended nothing and took nothing
pub absent-more : (w : Setting) (found : List Attempt) (place : ℕ) (before : Cutters) (shown : Pair) (past : List Pair) (row : StationRow)
    (own : StationData) → RowHears w found place before shown past row → slice_get w.plan.stations place ≡ Some own → is_present w.absent own ≡ false →
    RowHears w found (place + 1) before shown past row
absent-more w found place before shown past row own hears here absent = record {
  all = hears.all;
  present_are = hears.present_are;
  each = λ i s value there at present. elim (cases_eq i place) [
    | inl same ↦ (
        let own-is : own ≡ s = same_Some own s (sym here ∙ subst (λ j. slice_get w.plan.stations j ≡ Some s) same there) in
        let no : true ≡ false = sym present ∙ ap (is_present w.absent) (sym own-is) ∙ absent in
        absurd (cc))
    | inr other ↦ (
        subst (KeepsAt w before row.receiver.cutters shown past s value) (sym (below-other i place other)) (hears.each i s value there at present))
  ];
  attempts_are = sym (append-nil row.attempts.items)
      ∙ ap (λ xs. row.attempts.items ++ xs) (sym (ap (λ b. if b then ended_newest LAG own (starts w.plan own) w.loads w.outside (shown ∷ past) else []) absent))
      ∙ ap (λ xs. xs ++ ended_of w (shown ∷ past) own) hears.attempts_are
      ∙ append_assoc found (flat_map (ended_of w (shown ∷ past)) (take place w.plan.stations)) (ended_of w (shown ∷ past) own)
      ∙ ap (λ xs. found ++ xs) (more-of (ended_of w (shown ∷ past)) w.plan.stations place own here);
  taken_are = sym (append-nil row.taken.items)
      ∙ ap (λ xs. row.taken.items ++ xs) (sym (ap (taken-list own.terminal.address) (absent-delivers w (shown ∷ past) own absent)))
      ∙ ap (λ xs. xs ++ taken_by w (shown ∷ past) own) hears.taken_are
      ∙ more-of (taken_by w (shown ∷ past)) w.plan.stations place own here;
  objects = hears.objects;
}

-- before the first station heard it, when the receiver has and nothing was taken yet
pub hears-start : (most : ℕ) (w : Setting) (found : List Attempt) (count : ℕ) (shown : Pair) (past : List Pair) (row next : StationRow) →
    next.stations ≡ row.stations → next.present ≡ row.present → next.attempts ≡ row.attempts → next.objects ≡ row.objects → next.taken.items ≡ [] →
    RowKeeps most w found count row past → RowHears w found 0 row.receiver.cutters shown past next
hears-start most w found count shown past row next stations present attempts objects none st = record {
  all = ap (λ v. length v.items) stations ∙ st.stations.all;
  present_are = ap (λ v. v.items) present ∙ st.present_are;
  each = λ i s value there at here.
      let was : slice_get row.stations.items i ≡ Some value = ap (λ v. slice_get v.items i) (sym stations) ∙ at in
      subst (KeepsAt w row.receiver.cutters next.receiver.cutters shown past s value) (sym (none-below i))
      (st.stations.each i s value there was here, st.in_step i s value there was here);
  attempts_are = ap (λ v. v.items) attempts ∙ st.attempts_are ∙ sym (append-nil found);
  taken_are = none;
  objects = subst (λ v. ObjectsIn w v.items) (sym objects) st.objects;
}

-- after the last, with the count of the ticks with a delivery
pub hears-end : (most place count : ℕ) (w : Setting) (found : List Attempt) (before : Cutters) (shown : Pair) (past : List Pair) (row : StationRow) →
    place ≡ length row.stations.items →
    most + length row.stations.items ≤ vec_capacity row.attempts → length row.stations.items ≤ vec_capacity row.taken → count ≤ suc (length past) →
    ReceiverStands LAG row.receiver (shown ∷ past) → RowCalls row → RowHears w found place before shown past row →
    RowKeeps most w (found ++ ended_in w (shown ∷ past)) count (record row { delivering = count }) (shown ∷ past)
hears-end most place count w found before shown past row whole room taken-room few receiver calls hears = record {
  stations = record { all = hears.all; each = λ i s value there at here. (heard i s value there at here).0 };
  present_are = hears.present_are;
  attempts_are = hears.attempts_are
      ∙ ap (λ ss. found ++ flat_map (ended_of w (shown ∷ past)) ss) (ap (λ n. take n w.plan.stations) (whole ∙ hears.all)
      ∙ take-all w.plan.stations);
  room = room;
  taken_room = taken-room;
  objects = hears.objects;
  delivering_is = refl;
  delivering_few = few;
  receiver = receiver;
  in_step = λ i s value there at here. (heard i s value there at here).1;
  calls = record { few = calls.few; called = calls.called };
} where
  heard : (i : ℕ) (s : StationData) (value : Station) → slice_get w.plan.stations i ≡ Some s → slice_get row.stations.items i ≡ Some value →
      is_present w.absent s ≡ true → KeepsAt w before row.receiver.cutters shown past s value true
  heard i s value there at here =
      let below : i < length row.stations.items = slice_get_within row.stations.items i value at in
      let within : i < place = omega (arith, below, whole) in
      let test : nat_lt i place ≡ true = grind (arith, nat_tests, within) in
      subst (KeepsAt w before row.receiver.cutters shown past s value) test (hears.each i s value there at here)

-- all that was taken in the tick
pub taken-end : (place : ℕ) (w : Setting) (found : List Attempt) (before : Cutters) (shown : Pair) (past : List Pair) (row : StationRow) →
    place ≡ length row.stations.items → RowHears w found place before shown past row → row.taken.items ≡ taken_in w (shown ∷ past)
taken-end place w found before shown past row whole hears =
    hears.taken_are
    ∙ ap (flat_map (taken_by w (shown ∷ past))) (ap (λ n. take n w.plan.stations) (whole ∙ hears.all) ∙ take-all w.plan.stations)

-- a station has its plan's address
pub keeps-address : (s : StationData) (starts : Bool) (loads : List TimedLoad) (outside : List OutsideTake) (value : Station) (past : List Pair) →
    StationKeeps LAG s starts loads outside value past → value.address ≡ s.terminal.address
unfolding StationKeeps
keeps-address s starts loads outside value past st = st.address

-- by the attempts and the count
pub row-told : (most : ℕ) (w : Setting) (found found' : List Attempt) (count count' : ℕ) (row : StationRow) (past : List Pair) → found ≡ found' →
    count ≡ count' → RowKeeps most w found count row past → RowKeeps most w found' count' row past
row-told most w found found' count count' row past same same-count st =
    subst (λ n. RowKeeps most w found' n row past) same-count (subst (λ fs. RowKeeps most w fs count row past) same st)

-- all stations are present where none is absent
all-replicate : (w : Setting) (stations : List StationData) → w.absent ≡ [] → replicate (length stations) true ≡ map (is_present w.absent) stations
all-replicate w [] none = refl
all-replicate w (s ∷ stations) none =
    ap (λ bs. true ∷ bs) (all-replicate w stations none)
    ∙ ap (λ (absent : List ℕ). is_present absent s ∷ map (is_present w.absent) stations) (sym none)

pub all-here : (w : Setting) (plan : PlanData) (n : ℕ) → w.plan ≡ plan → w.absent ≡ [] → n ≡ length plan.stations → replicate n true ≡ presence w
all-here w plan n same none is =
    ap (λ m. replicate m true) (is ∙ ap (λ (p : PlanData). length p.stations) (sym same)) ∙ all-replicate w w.plan.stations none

-- the row of a bus that is joined to nothing, where one is made
pub row-begins : {E : Type 0} (most : ℕ) (plan : PlanData) (objects : List (Option ℕ)) (made : Result StationRow E) →
    IfOk made (λ row. (w : Setting) → w.plan ≡ plan → w.loads ≡ [] → w.outside ≡ [] → w.absent ≡ [] → ObjectsIn w objects → RowKeeps most w [] 0 row []) →
    ObjectsOf plan objects → IfOk made (λ row. RowStands most plan row [])
row-begins most plan objects (Err e) begins of = tt
row-begins most plan objects (Ok row) begins of =
    row-told most (alone plan) _ _ _ _ row [] (sym (attempts-none plan)) (sym (delivering-none plan)) (begins (alone plan) refl refl refl refl of)
