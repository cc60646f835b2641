-- The places of the stations that are called.
use Rattle.std.proofs.Common.{◌≡◌, ◌≢◌, ℕ, suc, ◌<◌, ◌≤◌, ◌+◌, ◌==◌, ◌||◌, ◌&&◌, Bool, true, false, List, [], ◌∷◌, ◌++◌, length, Some, None, zero, refl, sym, ap, ◌∙◌, subst, inl, inr, ◌⊎◌, arith, add-one, get_or}
use Rattle.std.specs.Prelude.{slice_get}
use Rattle.std.proofs.lemmas.Bool.{cases_eq, eqb-true, eq-eqb}
use Rattle.std.proofs.lemmas.Option.{slice_get_within, slice_get-get_or, slice_get_read, same_Some}
use Rattle.bus_station.specs.Needs.{needs_each_tick}
use Rattle.bus_station.specs.declared.station.Station.{Station}
use Rattle.bus_wire.specs.Places.{AreRising, is_among}
use Rattle.bus_wire.proofs.PlaceLaws.{first-within}
use Rattle.bus_run.specs.Called.{AreCalled}

-- places below one are below the next
pub rising-more : (from end : ℕ) (places : List ℕ) → AreRising from end places → AreRising from (suc end) places
rising-more from end [] rising = omega (arith, rising)
rising-more from end (place ∷ places) rising = (rising.0, rising-more (suc place) end places rising.1)

-- .. and below any later one
pub rising-to : (from end next : ℕ) (places : List ℕ) → end ≤ next → AreRising from end places → AreRising from next places
rising-to from end next [] low rising = omega (arith, low, rising)
rising-to from end next (place ∷ places) low rising = (rising.0, rising-to (suc place) end next places low rising.1)

-- with that one at the end they rise
pub rising-push : (from end : ℕ) (places : List ℕ) → AreRising from end places → AreRising from (suc end) (places ++ end ∷ [])
rising-push from end [] rising = (rising, omega arith)
rising-push from end (place ∷ places) rising = (rising.0, rising-push (suc place) end places rising.1)

-- each of them is below the end
pub rising-at : (from end : ℕ) (places : List ℕ) (n place : ℕ) → AreRising from end places → slice_get places n ≡ Some place → place < end
rising-at from end [] n place rising at = (let no : None ≡ Some place = at in cc)
rising-at from end (p ∷ places) zero place rising at = subst (λ (m : ℕ). m < end) (same_Some p place at) (first-within from end p places rising)
rising-at from end (p ∷ places) (suc n) place rising at = rising-at (suc p) end places n place rising.1 at

or-assoc : (a b c : Bool) → ((a || b) || c) ≡ (a || (b || c))
or-assoc true b c = refl
or-assoc false b c = refl

-- one of those, or the last
pub among-push : (i place : ℕ) (places : List ℕ) → is_among i (places ++ place ∷ []) ≡ (is_among i places || (place == i))
among-push i place [] = or-none (place == i) where
  or-none : (b : Bool) → (b || false) ≡ (false || b)
  or-none true = refl
  or-none false = refl
among-push i place (p ∷ places) =
    let rest = among-push i place places in
    rw rest (sym (or-assoc (p == i) (is_among i places) (place == i)))

-- the stations before a place, of which those are called that need it
pub record CalledBefore (present : List Bool) (stations : List Station) (place : ℕ) (places : List ℕ) : Type 0 where
  pub rising : AreRising 0 place places
  pub there : (i : ℕ) → is_among i places ≡ true → slice_get present i ≡ Some true
  pub others : (i : ℕ) (value : Station) → i < place → slice_get stations i ≡ Some value → slice_get present i ≡ Some true →
      is_among i places ≡ false → needs_each_tick value ≡ false

pub either-of : (a b : Bool) → (a || b) ≡ true → (a ≡ true) ⊎ (b ≡ true)
either-of true b h = inl refl
either-of false b h = inr h

pub neither-of : (a b : Bool) → (a || b) ≡ false → (a ≡ false) × (b ≡ false)
neither-of true b h = absurd (cc)
neither-of false b h = (refl, h)

-- below the next is below it, or that one
below-or : (i place : ℕ) → i < suc place → (i ≡ place) ⊎ (i ≢ place) → (i < place) ⊎ (i ≡ place)
below-or i place low (inl same) = inr same
below-or i place low (inr other) = inl (omega (arith, low, other))

-- with a station that is called
pub called-push : (present : List Bool) (stations : List Station) (place : ℕ) (places : List ℕ) → slice_get present place ≡ Some true →
    CalledBefore present stations place places → CalledBefore present stations (suc place) (places ++ place ∷ [])
called-push present stations place places is_there st = record {
  rising = rising-push 0 place places st.rising;
  there = λ i among. elim (either-of (is_among i places) (place == i) (sym (among-push i place places) ∙ among)) [
    | inl old ↦ st.there i old
    | inr new ↦ subst (λ (j : ℕ). slice_get present j ≡ Some true) (eqb-true place i new) is_there
  ];
  others = λ i value low at here among.
      let both = neither-of (is_among i places) (place == i) (sym (among-push i place places) ∙ among) in
      let other : i ≢ place = λ same. (let no : (place == i) ≡ true = eq-eqb place i (sym same) in absurd (cc)) in
      st.others i value (omega (arith, low, other)) at here both.0;
}

-- with a station that isn't
pub called-skip : (present : List Bool) (stations : List Station) (place : ℕ) (places : List ℕ) →
    ((value : Station) → slice_get stations place ≡ Some value → slice_get present place ≡ Some true → needs_each_tick value ≡ false) →
    CalledBefore present stations place places → CalledBefore present stations (suc place) places
called-skip present stations place places waits st = record {
  rising = rising-more 0 place places st.rising;
  there = st.there;
  others = λ i value low at here among. elim (below-or i place low (cases_eq i place)) [
    | inl before ↦ st.others i value before at here among
    | inr same ↦ waits value (subst (λ (j : ℕ). slice_get stations j ≡ Some value) same at) (subst (λ (j : ℕ). slice_get present j ≡ Some true) same here)
  ];
}

and-left : (a b : Bool) → (a && b) ≡ true → a ≡ true
and-left true b h = refl
and-left false b h = absurd (cc)

and-right : (a b : Bool) → a ≡ true → (a && b) ≡ false → b ≡ false
and-right true b is h = h
and-right false b is h = absurd (cc)

-- the station at a place is called, or isn't
pub called-next : (present : List Bool) (stations : List Station) (place : ℕ) (places : List ℕ) (value : Station) → place < length stations →
    length present ≡ length stations → (get_or present place false && needs_each_tick value) ≡ true → CalledBefore present stations place places →
    CalledBefore present stations (place + 1) (places ++ place ∷ [])
called-next present stations place places value within all needs st =
    rw add-one (called-push present stations place places (slice_get-get_or present place false (omega (arith, within, all))
    ∙ ap Some (and-left (get_or present place false) (needs_each_tick value) needs)) st)

pub called-pass : (present : List Bool) (stations : List Station) (place : ℕ) (places : List ℕ) (value : Station) → place < length stations →
    length present ≡ length stations → value ≡ get_or stations place value → (get_or present place false && needs_each_tick value) ≡ false →
    CalledBefore present stations place places → CalledBefore present stations (place + 1) places
called-pass present stations place places value within all is waits st =
    rw add-one (called-skip present stations place places (λ other at here.
    (let same : value ≡ other = same_Some value other (sym (slice_get_read stations (length stations) place value refl within is) ∙ at) in
    let there : get_or present place false ≡ true =
    same_Some (get_or present place false) true (sym (slice_get-get_or present place false (omega (arith, within, all))) ∙ here) in
    subst (λ (v : Station). needs_each_tick v ≡ false) same (and-right (get_or present place false) (needs_each_tick value) there waits))) st)

-- of no station yet
pub called-none : (present : List Bool) (stations : List Station) → CalledBefore present stations 0 []
called-none present stations = record {
  rising = omega arith;
  there = λ i among. absurd (cc);
  others = λ i value low at here among. absurd (omega (arith, low));
}

-- of all of them
pub called-all : (present : List Bool) (stations : List Station) (place : ℕ) (places : List ℕ) → place ≡ length stations →
    CalledBefore present stations place places → AreCalled present stations places
called-all present stations place places whole st = record {
  rising = subst (λ (n : ℕ). AreRising 0 n places) whole st.rising;
  there = st.there;
  others = λ i value at here among. st.others i value (rw whole (slice_get_within stations i value at)) at here among;
}

-- by other names
pub called-named : (present present' : List Bool) (stations stations' : List Station) (places places' : List ℕ) → present ≡ present' → stations' ≡ stations →
    places' ≡ places → AreCalled present stations places → AreCalled present' stations' places'
called-named present present' stations stations' places places' same same-stations same-places st =
    subst (λ (ps : List ℕ). AreCalled present' stations' ps) (sym same-places)
    (subst (λ (ss : List Station). AreCalled present' ss places) (sym same-stations)
    (subst (λ (bs : List Bool). AreCalled bs stations places) same st))

-- a place of the list is another than one that isn't among them
pub among-at : (i place : ℕ) (places : List ℕ) (n : ℕ) → slice_get places n ≡ Some place → is_among i places ≡ false → i ≢ place
among-at i place [] n at none = λ same. (let no : None ≡ Some place = at in absurd (cc))
among-at i place (p ∷ places) zero at none = λ same.
    (let is : p ≡ place = same_Some p place at in
    let yes : (p == i) ≡ true = eq-eqb p i (is ∙ sym same) in
    let no : (p == i) ≡ false = (neither-of (p == i) (is_among i places) none).0 in
    absurd (cc))
among-at i place (p ∷ places) (suc n) at none = among-at i place places n at (neither-of (p == i) (is_among i places) none).1

-- the stations that are called are the same where all others are as they were
pub called-same : (present present' : List Bool) (stations stations' : List Station) (places places' : List ℕ) → present' ≡ present →
    length stations' ≡ length stations → places' ≡ places →
    ((i : ℕ) → is_among i places ≡ false → slice_get stations' i ≡ slice_get stations i) →
    AreCalled present stations places → AreCalled present' stations' places'
called-same present present' stations stations' places places' same all same-places others st =
    called-named present present' stations' stations' places places' (sym same) refl same-places (record {
      rising = subst (λ (n : ℕ). AreRising 0 n places) (sym all) st.rising;
      there = st.there;
      others = λ i value at here among. st.others i value (sym (others i among) ∙ at) here among;
    })
