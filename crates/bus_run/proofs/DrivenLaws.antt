-- The drives of the stations that are called, place by place.
use Rattle.std.proofs.Common.{◌≡◌, ◌≢◌, ℕ, zero, suc, ◌+◌, ◌<◌, ◌≤◌, ◌==◌, ◌||◌, Bool, true, false, List, [], ◌∷◌, ◌++◌, length, take, drop, map, Some, None, refl, sym, ap, ◌∙◌, subst, inl, inr, ◌⊎◌, arith, add-one}
use Rattle.std.specs.Prelude.{set, slice_get, option_map, if◌then◌else◌}
use Rattle.std.proofs.lemmas.Bool.{cases_eq, cases_Bool, eqb-true, eq-eqb}
use Rattle.std.proofs.lemmas.List.{length-set, length-map}
use Rattle.std.proofs.lemmas.Option.{slice_get_within, slice_get-map, same_Some}
use Rattle.bus_base.specs.declared.samples.Drive.{Drive}
use Rattle.bus_base.specs.declared.samples.Drive.TheVariants.{Silent, On}
use Rattle.bus_base.specs.declared.samples.Pair.{Pair}
use Rattle.bus_line.specs.declared.cutter.TheConstants.{LAG}
use Rattle.bus_formats.specs.Plans.{StationData}
use Rattle.bus_model.specs.Control.{drives_next}
use Rattle.bus_model.specs.Starts.{starts}
use Rattle.bus_model.specs.World.{is_present, drive_after, drives_after}
use Rattle.bus_station.specs.declared.station.Station.{Station}
use Rattle.bus_station.proofs.Waits.{station-silent}
use Rattle.bus_wire.specs.Places.{AreRising, is_among}
use Rattle.bus_wire.proofs.WireLaws.{drop-next}
use Rattle.bus_run.specs.Called.{AreCalled}
use Rattle.bus_run.specs.Parts.{StationsStandIn, presence}
use Rattle.bus_run.specs.Settings.{Setting}
use Rattle.bus_run.specs.Driven.{IsDriveOf, AreSilentBut, AreDriven, is_on}
use Rattle.bus_run.proofs.CalledLaws.{among-push, either-of, neither-of}
use Rattle.bus_run.proofs.RowLaws.{take-next, set-same, set-other, found-at}

-- ---- those that are called drive

-- none of them yet
pub driven-none : (stations : List Station) (drives : List Drive) → length drives ≡ length stations →
    AreSilentBut [] drives → AreDriven stations [] drives
driven-none stations drives all silent = record {
  all = all;
  each = λ i drive value at here among. absurd (cc);
  others = silent;
}

-- another place
apart : (i place : ℕ) → (place == i) ≡ false → i ≢ place
apart i place other = λ same. (let no : (place == i) ≡ true = eq-eqb place i (sym same) in absurd (cc))

-- one more
driven-one : (stations : List Station) (places : List ℕ) (drives : List Drive) (place : ℕ) (value : Station) (drive : Drive) →
    slice_get stations place ≡ Some value → IsDriveOf value drive → AreDriven stations places drives →
    AreDriven stations (places ++ place ∷ []) (set drives place drive)
driven-one stations places drives place value drive here is st =
    let within : place < length drives = (let low = slice_get_within stations place value here in let all = st.all in omega (arith, low, all)) in
    record {
      all = length-set drives place drive ∙ st.all;
      each = λ i d v at there among. by-place i d v at there (cases_eq i place) (either-of (is_among i places) (place == i)
          (sym (among-push i place places) ∙ among));
      others = λ i d at among.
          let both = neither-of (is_among i places) (place == i) (sym (among-push i place places) ∙ among) in
          st.others i d (sym (set-other drives place i drive (apart i place both.1)) ∙ at) both.0;
    } where
      by-place : (i : ℕ) (d : Drive) (v : Station) → slice_get (set drives place drive) i ≡ Some d → slice_get stations i ≡ Some v →
          (i ≡ place) ⊎ (i ≢ place) → (is_among i places ≡ true) ⊎ ((place == i) ≡ true) → IsDriveOf v d
      by-place i d v at there (inl same) among =
          let within : place < length drives = (let low = slice_get_within stations place value here in let all = st.all in omega (arith, low, all)) in
          let at-place : slice_get (set drives place drive) place ≡ Some d = subst (λ (j : ℕ). slice_get (set drives place drive) j ≡ Some d) same at in
          let drive_is : drive ≡ d = same_Some drive d (sym (set-same drives place drive within) ∙ at-place) in
          let value_is : value ≡ v = same_Some value v (sym here ∙ subst (λ (j : ℕ). slice_get stations j ≡ Some v) same there) in
          subst (λ (w : Station). IsDriveOf w d) value_is (subst (λ (x : Drive). IsDriveOf value x) drive_is is)
      by-place i d v at there (inr other) (inl old) = st.each i d v (sym (set-other drives place i drive other) ∙ at) there old
      by-place i d v at there (inr other) (inr new) = absurd (other (sym (eqb-true place i new)))

pub driven-more : (stations : List Station) (places : List ℕ) (drives : List Drive) (n place : ℕ) (value : Station) (drive : Drive) →
    slice_get places n ≡ Some place → slice_get stations place ≡ Some value → IsDriveOf value drive → AreDriven stations (take n places) drives →
    AreDriven stations (take (n + 1) places) (set drives place drive)
driven-more stations places drives n place value drive at here is st =
    let more : take (n + 1) places ≡ take n places ++ place ∷ [] = ap (λ m. take m places) (add-one n) ∙ take-next places n place at in
    subst (λ (ps : List ℕ). AreDriven stations ps (set drives place drive)) (sym more) (driven-one stations (take n places) drives place value drive here is st)

-- ---- those of them that drive a channel

pub off-silent : (drive : Drive) → is_on drive ≡ false → drive ≡ Silent
off-silent Silent h = refl
off-silent (On channel sample part last) h = absurd (cc)

-- a silent drive is written
pub silent-set : (places : List ℕ) (drives : List Drive) (place : ℕ) (drive : Drive) → place < length drives → drive ≡ Silent → AreSilentBut places drives →
    AreSilentBut places (set drives place drive)
silent-set places drives place drive within off st = λ i d at none. elim (cases_eq i place) [
  | inl same ↦ sym (same_Some drive d (sym (set-same drives place drive within) ∙ subst (λ (j : ℕ). slice_get (set drives place drive) j ≡ Some d) same at)) ∙ off
  | inr other ↦ st i d (sym (set-other drives place i drive other) ∙ at) none
]

-- another is, and its place is named
pub silent-with : (places : List ℕ) (drives : List Drive) (place : ℕ) (drive : Drive) → AreSilentBut places drives →
    AreSilentBut (places ++ place ∷ []) (set drives place drive)
silent-with places drives place drive st = λ i d at none.
    let both = neither-of (is_among i places) (place == i) (sym (among-push i place places) ∙ none) in
    st i d (sym (set-other drives place i drive (apart i place both.1)) ∙ at) both.0

-- the next of the places to come
pub rising-next : (from end : ℕ) (places : List ℕ) (n place : ℕ) → slice_get places n ≡ Some place → AreRising from end (drop n places) →
    (from ≤ place) × AreRising (place + 1) end (drop (n + 1) places)
rising-next from end places n place at rising =
    let rest : drop n places ≡ place ∷ drop (n + 1) places = drop-next places n place at ∙ ap (λ m. place ∷ drop m places) (sym (add-one n)) in
    let both = subst (λ (ps : List ℕ). AreRising from end ps) rest rising in (both.0, rw add-one both.1)

-- ---- they are made silent again

-- at one place more
pub silent-more : (places : List ℕ) (drives : List Drive) (n place : ℕ) → slice_get places n ≡ Some place → place < length drives →
    AreSilentBut (drop n places) drives → AreSilentBut (drop (n + 1) places) (set drives place Silent)
silent-more places drives n place at within st = λ i drive here among.
    let rest : drop n places ≡ place ∷ drop (n + 1) places = drop-next places n place at ∙ ap (λ m. place ∷ drop m places) (sym (add-one n)) in
    elim (cases_eq i place) [
      | inl same ↦ sym (same_Some Silent drive (sym (set-same drives place Silent within)
          ∙ subst (λ (j : ℕ). slice_get (set drives place Silent) j ≡ Some drive) same here))
      | inr other ↦ st i drive (sym (set-other drives place i Silent other) ∙ here)
          (ap (is_among i) rest ∙ none-of (place == i) (is_among i (drop (n + 1) places)) (unlike place i other) among)
    ] where
      none-of : (a b : Bool) → a ≡ false → b ≡ false → (a || b) ≡ false
      none-of a b first second = rw (first, second) refl

      unlike : (place i : ℕ) → i ≢ place → (place == i) ≡ false
      unlike place i other = elim (cases_Bool (place == i)) [
        | inl same ↦ absurd (other (sym (eqb-true place i same)))
        | inr off ↦ off
      ]

-- with a silent one more
pub silent-push : (drives : List Drive) → AreSilentBut [] drives → AreSilentBut [] (drives ++ Silent ∷ [])
silent-push [] st zero drive at none = sym (same_Some Silent drive at)
silent-push [] st (suc i) drive at none = (let no : None ≡ Some drive = at in cc)
silent-push (d ∷ drives) st zero drive at none = st zero drive at none
silent-push (d ∷ drives) st (suc i) drive at none = silent-push drives (λ j x here off. st (suc j) x here off) i drive at none

-- of none
pub silent-none : AreSilentBut [] []
silent-none i drive at none = (let no : None ≡ Some drive = at in cc)

-- ---- lists

-- two lists that are alike at each place
pub alike : {A : Type 0} (xs ys : List A) → length xs ≡ length ys →
    ((i : ℕ) (x y : A) → slice_get xs i ≡ Some x → slice_get ys i ≡ Some y → x ≡ y) → xs ≡ ys
alike [] [] all same = refl
alike [] (y ∷ ys) all same = absurd (omega (arith, all))
alike (x ∷ xs) [] all same = absurd (omega (arith, all))
alike (x ∷ xs) (y ∷ ys) all same =
    let rest : xs ≡ ys = alike xs ys (omega (arith, all)) (λ i a b. same (suc i) a b) in
    rw (same 0 x y refl refl, rest) refl

-- ---- what all stations drive

by-presence : (here : Bool) (d x : Drive) → (here ≡ true → d ≡ x) → (here ≡ false → d ≡ Silent) → d ≡ (if here then x else Silent)
by-presence true d x present absent = present refl
by-presence false d x present absent = absent refl

module _ (w : Setting) (past : List Pair) (stations : List Station) (places : List ℕ) (drives : List Drive) (st : StationsStandIn w stations past)
    (called : AreCalled (presence w) stations places) (driven : AreDriven stations places drives) where
  -- one that is present drives what it does, or waits and is silent
  present-drives : (i : ℕ) (d : Drive) (s : StationData) → slice_get drives i ≡ Some d → slice_get w.plan.stations i ≡ Some s →
      is_present w.absent s ≡ true → d ≡ drives_next LAG s (starts w.plan s) w.loads w.outside past
  present-drives i d s at there here =
      let (value, kept) = found-at stations i (let all = st.all in let within = slice_get_within w.plan.stations i s there in omega (arith, all, within)) in
      let stands = st.each i s value there kept here in
      let presented : slice_get (presence w) i ≡ Some true =
      slice_get-map (is_present w.absent) w.plan.stations i ∙ ap (option_map (is_present w.absent)) there ∙ ap Some here in
      elim (cases_Bool (is_among i places)) [
        | inl among ↦ driven.each i d value at kept among s (starts w.plan s) w.loads w.outside past stands
        | inr off ↦ driven.others i d at off
            ∙ sym (station-silent s (starts w.plan s) w.loads w.outside value past (called.others i value kept presented off) stands)
      ]

  -- one that is absent isn't called
  absent-silent : (i : ℕ) (d : Drive) (s : StationData) → slice_get drives i ≡ Some d → slice_get w.plan.stations i ≡ Some s →
      is_present w.absent s ≡ false → d ≡ Silent
  absent-silent i d s at there absent =
      let presented : slice_get (presence w) i ≡ Some false =
      slice_get-map (is_present w.absent) w.plan.stations i ∙ ap (option_map (is_present w.absent)) there ∙ ap Some absent in
      elim (cases_Bool (is_among i places)) [
        | inl among ↦ absurd (let both : Some true ≡ Some false = sym (called.there i among) ∙ presented in cc)
        | inr off ↦ driven.others i d at off
      ]

  each-drives : (i : ℕ) (d x : Drive) → slice_get drives i ≡ Some d →
      slice_get (map (drive_after LAG w.plan w.loads w.outside w.absent past) w.plan.stations) i ≡ Some x → d ≡ x
  each-drives i d x at there =
      let all = driven.all in
      let same = st.all in
      let low = slice_get_within drives i d at in
      let (s, found) = found-at w.plan.stations i (omega (arith, all, same, low)) in
      let is : drive_after LAG w.plan w.loads w.outside w.absent past s ≡ x =
      same_Some (drive_after LAG w.plan w.loads w.outside w.absent past s) x
      (sym (slice_get-map (drive_after LAG w.plan w.loads w.outside w.absent past) w.plan.stations i
      ∙ ap (option_map (drive_after LAG w.plan w.loads w.outside w.absent past)) found) ∙ there) in
      by-presence (is_present w.absent s) d (drives_next LAG s (starts w.plan s) w.loads w.outside past) (present-drives i d s at found)
      (absent-silent i d s at found) ∙ is

  -- so the drives are those of the world
  pub drives-are : drives ≡ drives_after LAG w.plan w.loads w.outside w.absent past
  drives-are =
      alike drives (drives_after LAG w.plan w.loads w.outside w.absent past)
      (driven.all ∙ st.all ∙ sym (length-map w.plan.stations (drive_after LAG w.plan w.loads w.outside w.absent past))) each-drives
