-- Stations that aren't called in a tick with which nothing becomes known are passed: they are as they would be if they had heard it.
use Rattle.std.proofs.Common.{◌≡◌, ◌≢◌, ℕ, zero, suc, ◌+◌, ◌<◌, ◌≤◌, ◌==◌, Bool, true, false, ◌||◌, List, [], ◌∷◌, ◌++◌, length, take, drop, add-one, None, Some, Option, refl, sym, ap, ◌∙◌, subst, inl, inr, arith, append-nil}
use Rattle.std.specs.Prelude.{slice_get, set, option_map, nat_lt}
use Rattle.std.proofs.lemmas.Bool.{cases_Bool}
use Rattle.std.proofs.lemmas.Bool.Decides.{nat_tests}
use Rattle.std.proofs.lemmas.Option.{slice_get_within, slice_get-map}
use Rattle.bus_base.specs.declared.samples.Pair.{Pair}
use Rattle.bus_line.specs.declared.cutter.TheConstants.{LAG}
use Rattle.bus_formats.specs.Plans.{StationData}
use Rattle.bus_formats.specs.declared.log.Attempt.{Attempt}
use Rattle.bus_formats.specs.declared.log.Delivery.{Delivery}
use Rattle.bus_model.specs.Starts.{starts}
use Rattle.bus_model.specs.World.{is_present}
use Rattle.bus_receiver.specs.Nothing.{are_nothing}
use Rattle.bus_receiver.specs.declared.cutters.Cutters.{Cutters}
use Rattle.bus_receiver.specs.declared.receiver.Moment.{Moment}
use Rattle.bus_receiver.specs.declared.receiver.Receiver.{Receiver}
use Rattle.bus_station.specs.Listening.{IsNext}
use Rattle.bus_station.specs.Needs.{needs_each_tick}
use Rattle.bus_station.specs.declared.station.Station.{Station}
use Rattle.bus_station.proofs.Waits.{station-waits, station-stays}
use Rattle.bus_wire.specs.Places.{AreRising, is_among}
use Rattle.bus_wire.proofs.PlaceLaws.{first-within, none-between}
use Rattle.bus_wire.proofs.WireLaws.{drop-next}
use Rattle.bus_run.specs.Called.{AreCalled}
use Rattle.bus_run.specs.Deliveries.{delivered_in, is_delivering_in, ObjectsIn}
use Rattle.bus_run.specs.Parts.{presence}
use Rattle.bus_run.specs.Settings.{Setting}
use Rattle.bus_run.specs.StationRows.{RowHears, KeepsAt, ObjectsHear, ended_of}
use Rattle.bus_run.specs.declared.station_row.StationRow.{StationRow}
use Rattle.bus_run.proofs.DeliveryLaws.{delivering-more}
use Rattle.bus_run.proofs.ObjectLaws.{objects-same}
use Rattle.bus_run.proofs.RowLaws.{found-at, stands-before, hears-more, absent-more, absent-delivers, present-delivers, present-ends, taken-list}

-- what is there is written again
set-own : {A : Type 0} (xs : List A) (i : ℕ) (x : A) → slice_get xs i ≡ Some x → xs ≡ set xs i x
set-own [] i x at = refl
set-own (y ∷ xs) zero x at = (let same : y ≡ x = cc in ap (λ z. z ∷ xs) same)
set-own (y ∷ xs) (suc i) x at = ap (λ zs. y ∷ zs) (set-own xs i x at)

or-none : (a : Bool) → (a || false) ≡ a
or-none true = refl
or-none false = refl

-- a station of the row that is absent, or waits
abbrev pub Passes : Setting → StationRow → ℕ → Type 0
Passes w row place = (s : StationData) (value : Station) → slice_get w.plan.stations place ≡ Some s → slice_get row.stations.items place ≡ Some value →
    is_present w.absent s ≡ true → needs_each_tick value ≡ false

-- it is passed: the row hears up to the next place, and its terminal took nothing
pub record Passed (w : Setting) (found : List Attempt) (before : Cutters) (shown : Pair) (past : List Pair) (row : StationRow) (place : ℕ) : Type 0 where
  pub own : StationData
  pub there : slice_get w.plan.stations place ≡ Some own
  pub hears : RowHears w found (place + 1) before shown past row
  pub took : delivered_in w (shown ∷ past) own ≡ None

module _ (w : Setting) (found : List Attempt) (before : Cutters) (moment : Moment) (past : List Pair) (row : StationRow)
    (nothing : are_nothing moment.cuts ≡ true) (next : IsNext LAG moment before row.receiver.cutters past) where
  -- one that is present
  module _ (place : ℕ) (hears : RowHears w found place before moment.shown past row) (s : StationData) (value : Station)
      (there : slice_get w.plan.stations place ≡ Some s) (at : slice_get row.stations.items place ≡ Some value)
      (present : is_present w.absent s ≡ true) (waits : needs_each_tick value ≡ false) where
    -- ends no attempt in the tick
    present-ends-none : ended_of w (moment.shown ∷ past) s ≡ []
    present-ends-none =
        let both = stands-before w found place before moment.shown past row s value hears there at present in
        present-ends w (moment.shown ∷ past) s present
        ∙ sym (station-waits s (starts w.plan s) w.loads w.outside value moment past before row.receiver.cutters waits nothing both.0 both.1 next).ended

    -- and takes nothing
    present-takes-none : delivered_in w (moment.shown ∷ past) s ≡ None
    present-takes-none =
        let both = stands-before w found place before moment.shown past row s value hears there at present in
        present-delivers w (moment.shown ∷ past) s present
        ∙ sym (station-waits s (starts w.plan s) w.loads w.outside value moment past before row.receiver.cutters waits nothing both.0 both.1 next).took

    -- so it is passed
    present-passed : RowHears w found (place + 1) before moment.shown past row
    present-passed =
        let both = stands-before w found place before moment.shown past row s value hears there at present in
        hears-more w found place before moment.shown past row row s value (slice_get_within row.stations.items place value at) hears there
        (λ here. (
          (station-waits s (starts w.plan s) w.loads w.outside value moment past before row.receiver.cutters waits nothing both.0 both.1 next).stands,
          station-stays s (starts w.plan s) w.loads w.outside value moment past before row.receiver.cutters waits nothing both.0 both.1 next,
        ))
        (set-own row.stations.items place value at) refl
        (sym (append-nil row.attempts.items) ∙ ap (λ xs. row.attempts.items ++ xs) (sym present-ends-none))
        (sym (append-nil row.taken.items) ∙ ap (λ xs. row.taken.items ++ xs) (sym (ap (taken-list s.terminal.address) present-takes-none)))
        refl refl

  -- one station, present or absent
  pub passed-one : (place : ℕ) → place < length row.stations.items → RowHears w found place before moment.shown past row → Passes w row place →
      Passed w found before moment.shown past row place
  passed-one place within hears passes =
      let (s, there) = found-at w.plan.stations place (let all = hears.all in omega (arith, all, within)) in
      let (value, at) = found-at row.stations.items place within in
      elim (cases_Bool (is_present w.absent s)) [
        | inl present ↦ record {
          own = s;
          there = there;
          hears = present-passed place hears s value there at present (passes s value there at present);
          took = present-takes-none place hears s value there at present (passes s value there at present);
        }
        | inr absent ↦ record {
          own = s;
          there = there;
          hears = absent-more w found place before moment.shown past row s hears there absent;
          took = absent-delivers w (moment.shown ∷ past) s absent;
        }
      ]

  -- so many of them
  pub hears-over : (m from : ℕ) → m + from ≤ length row.stations.items → ((i : ℕ) → from ≤ i → i < m + from → Passes w row i) →
      RowHears w found from before moment.shown past row → RowHears w found (m + from) before moment.shown past row
  hears-over zero from within passes hears = (let same : zero + from ≡ from = omega arith in rw same hears)
  hears-over (suc m) from within passes hears =
      let same : suc m + from ≡ m + (from + 1) = omega arith in
      rw same (hears-over m (from + 1) (omega (arith, within)) (λ i low high. passes i (omega (arith, low)) (omega (arith, high)))
      (passed-one from (omega (arith, within)) hears (passes from (omega arith) (omega arith))).hears)

  -- none of them took a block
  pub took-over : (m from : ℕ) (took : Bool) → m + from ≤ length row.stations.items → ((i : ℕ) → from ≤ i → i < m + from → Passes w row i) →
      RowHears w found from before moment.shown past row → took ≡ is_delivering_in w (moment.shown ∷ past) (take from w.plan.stations) →
      took ≡ is_delivering_in w (moment.shown ∷ past) (take (m + from) w.plan.stations)
  took-over zero from took within passes hears is = (let same : zero + from ≡ from = omega arith in rw same is)
  took-over (suc m) from took within passes hears is =
      let same : suc m + from ≡ m + (from + 1) = omega arith in
      let one = passed-one from (omega (arith, within)) hears (passes from (omega arith) (omega arith)) in
      rw same (took-over m (from + 1) took (omega (arith, within)) (λ i low high. passes i (omega (arith, low)) (omega (arith, high))) one.hears
      (sym (or-none took) ∙ delivering-more w (moment.shown ∷ past) from one.own took false one.there is (rw one.took refl)))

  -- and their objects tell the same
  pub objects-over : (m from : ℕ) (objects : List (Option ℕ)) (told_before : List (Option (List Delivery))) (told : List (Option (List Delivery)))
      (spare : List ℕ) → m + from ≤ length row.stations.items → ((i : ℕ) → from ≤ i → i < m + from → Passes w row i) →
      RowHears w found from before moment.shown past row → ObjectsHear w objects told_before from moment.shown past told spare →
      ObjectsHear w objects told_before (m + from) moment.shown past told spare
  objects-over zero from objects told_before told spare within passes hears objs = (let same : zero + from ≡ from = omega arith in rw same objs)
  objects-over (suc m) from objects told_before told spare within passes hears objs =
      let same : suc m + from ≡ m + (from + 1) = omega arith in
      let one = passed-one from (omega (arith, within)) hears (passes from (omega arith) (omega arith)) in
      rw same (objects-over m (from + 1) objects told_before told spare (omega (arith, within))
      (λ i low high. passes i (omega (arith, low)) (omega (arith, high))) one.hears
      (objects-same w objects told_before from moment.shown past told spare one.own one.there one.took objs))

-- ---- from one place to the next

-- the next place, before which all stations from one on are passed
pub record Step (from n place : ℕ) (rest places : List ℕ) : Type 0 where
  pub low : from ≤ place
  pub within : place < n
  pub rising : AreRising (place + 1) n rest
  pub between : (i : ℕ) → from ≤ i → i < place → is_among i places ≡ false
  pub later : (i : ℕ) → place + 1 ≤ i → is_among i places ≡ is_among i rest

other-place : (i place : ℕ) (b : Bool) → place + 1 ≤ i → ((place == i) || b) ≡ b
other-place i place b past = (let other : (place == i) ≡ false = grind (arith, nat_tests, past) in rw other refl)

step-first : (from n place : ℕ) (rest places : List ℕ) → AreRising from n (place ∷ rest) →
    ((i : ℕ) → from ≤ i → is_among i places ≡ is_among i (place ∷ rest)) → Step from n place rest places
step-first from n place rest places rising alike = record {
  low = rising.0;
  within = first-within from n place rest rising;
  rising = rw add-one rising.1;
  between = λ i low below. alike i low ∙ none-between i from n place rest rising below;
  later = λ i past. alike i (let low = rising.0 in omega (arith, past, low)) ∙ other-place i place (is_among i rest) past;
}

pub step-of : (places : List ℕ) (n index from place : ℕ) → slice_get places index ≡ Some place → AreRising from n (drop index places) →
    ((i : ℕ) → from ≤ i → is_among i places ≡ is_among i (drop index places)) → Step from n place (drop (index + 1) places) places
step-of places n index from place at rising alike =
    let same : drop index places ≡ place ∷ drop (index + 1) places = drop-next places index place at ∙ ap (λ m. place ∷ drop m places) (sym (add-one index)) in
    step-first from n place (drop (index + 1) places) places (subst (λ ps. AreRising from n ps) same rising)
    (λ i low. alike i low ∙ ap (is_among i) same)

-- a place from the next one on is another
pub apart-places : (i place : ℕ) → place + 1 ≤ i → i ≢ place
apart-places i place past = λ same. absurd (omega (arith, past, same))

-- a station that isn't called, in a row in which it is as it was
pub passes-called : (w : Setting) (old row : StationRow) (i : ℕ) → AreCalled old.present.items old.stations.items old.places.items →
    row.present.items ≡ presence w → row.present ≡ old.present → slice_get row.stations.items i ≡ slice_get old.stations.items i →
    is_among i old.places.items ≡ false → Passes w row i
passes-called w old row i called presents present same among = λ s value there at here.
    called.others i value (sym same ∙ at)
    (ap (λ v. slice_get v.items i) (sym present) ∙ ap (λ xs. slice_get xs i) presents
    ∙ slice_get-map (is_present w.absent) w.plan.stations i ∙ ap (option_map (is_present w.absent)) there ∙ ap Some here) among

-- so many from one to another
pub apart-by : (from to : ℕ) → from ≤ to → (m : ℕ) × (to ≡ m + from)
apart-by zero to low = (to, omega arith)
apart-by (suc from) zero low = absurd (omega (arith, low))
apart-by (suc from) (suc to) low = (let (m, is) = apart-by from to (omega (arith, low)) in (m, omega (arith, is)))

module _ (w : Setting) (found : List Attempt) (before : Cutters) (moment : Moment) (past : List Pair) (row : StationRow)
    (nothing : are_nothing moment.cuts ≡ true) (next : IsNext LAG moment before row.receiver.cutters past) (from to : ℕ) (low : from ≤ to)
    (within : to ≤ length row.stations.items) (passes : (i : ℕ) → from ≤ i → i < to → Passes w row i)
    (hears : RowHears w found from before moment.shown past row) where
  -- the stations between hear, as it were
  pub hears-up : RowHears w found to before moment.shown past row
  hears-up =
      let (m, is) = apart-by from to low in
      rw is (hears-over w found before moment past row nothing next m from (omega (arith, is, within))
      (λ i past-from below. passes i past-from (omega (arith, below, is))) hears)

  pub took-up : (took : Bool) → took ≡ is_delivering_in w (moment.shown ∷ past) (take from w.plan.stations) →
      took ≡ is_delivering_in w (moment.shown ∷ past) (take to w.plan.stations)
  took-up took was =
      let (m, is) = apart-by from to low in
      rw is (took-over w found before moment past row nothing next m from took (omega (arith, is, within))
      (λ i past-from below. passes i past-from (omega (arith, below, is))) hears was)

  pub objects-up : (objects : List (Option ℕ)) (told_before told : List (Option (List Delivery))) (spare : List ℕ) →
      ObjectsHear w objects told_before from moment.shown past told spare → ObjectsHear w objects told_before to moment.shown past told spare
  objects-up objects told_before told spare objs =
      let (m, is) = apart-by from to low in
      rw is (objects-over w found before moment past row nothing next m from objects told_before told spare (omega (arith, is, within))
      (λ i past-from below. passes i past-from (omega (arith, below, is))) hears objs)

-- a row that differs in whom it calls alone hears as before
pub hears-named : (w : Setting) (found : List Attempt) (place : ℕ) (before : Cutters) (shown : Pair) (past : List Pair) (row next : StationRow) →
    next.stations ≡ row.stations → next.present ≡ row.present → next.attempts ≡ row.attempts → next.taken ≡ row.taken → next.objects ≡ row.objects →
    next.receiver ≡ row.receiver → RowHears w found place before shown past row → RowHears w found place before shown past next
hears-named w found place before shown past row next stations present attempts taken objects receiver hears = record {
  all = ap (λ v. length v.items) stations ∙ hears.all;
  present_are = ap (λ v. v.items) present ∙ hears.present_are;
  each = λ i s value there at here.
      subst (λ (r : Receiver). KeepsAt w before r.cutters shown past s value (nat_lt i place)) (sym receiver)
      (hears.each i s value there (ap (λ v. slice_get v.items i) (sym stations) ∙ at) here);
  attempts_are = ap (λ v. v.items) attempts ∙ hears.attempts_are;
  taken_are = ap (λ v. v.items) taken ∙ hears.taken_are;
  objects = subst (λ v. ObjectsIn w v.items) (sym objects) hears.objects;
}
