-- The station in control is found among those of the message table, by its address, which no other one has.
use Rattle.std.proofs.Common.{◌≡◌, ◌≢◌, ◌⊎◌, inl, inr, ℕ, true, false, List, [], ◌∷◌, length, map, Some, refl, sym, ap, ◌∙◌, subst}
use Rattle.std.proofs.lemmas.Bool.{eq-eqb, ne_eqb}
use Rattle.std.specs.Prelude.{not, ◌==◌, find, AllPairs}
use Rattle.std.specs.List.{AllZip}
use Rattle.bus_base.specs.declared.samples.Pair.{Pair}
use Rattle.bus_formats.specs.Plans.{StationData, PlanData}
use Rattle.bus_model.specs.Message.{Present, address_of_station}
use Rattle.bus_model.specs.Run.{Run, is_at}
use Rattle.bus_model.specs.World.{Trace, is_present}
use Rattle.bus_model.specs.WorldLog.{present_stations}
use Rattle.bus_law_duties.specs.Duties.{AreApart}
use Rattle.bus_law_plans.specs.Entries.{IsStationOf, IsRunAmong, AreNamedApart}
use Rattle.bus_law_table.specs.Stations.{loaded_at, IsNamedApart}
use Rattle.bus_law_table.proofs.AllStations.{IsThere, all-there}
use Rattle.bus_law_table.proofs.Pairing.{Beside, Has, beside, has-filter}
use Rattle.bus_law_phases.specs.Rests.{Rested}
use Rattle.bus_law_phases.specs.Scenarios.{Scenario, IsPresentAt, present_of}

-- a station of the table is that of the station in control
abbrev pub IsOwn : Scenario → List Pair → StationData → Present → Type 0
IsOwn w past holder y = present_of w holder past ≡ loaded_at w.loads (length past) y

-- the table's stations are these of those that are present, of which the station in control is told as it is
module _ (w : Scenario) (past : List Pair) (place : ℕ) (holder : StationData) (stations : List Present) (at : IsPresentAt w place holder)
    (told : StationData → Present) (own : told holder ≡ present_of w holder past) (plans : (st : StationData) → (told st).plan ≡ st)
    (are : map told (present_stations w.lag w.plan w.loads w.outside w.absent) ≡ map (loaded_at w.loads (length past)) stations)
    (apart : IsNamedApart w.plan place holder) (address : ℕ) (named : holder.terminal.address ≡ address) where
  -- a station of the table is that of the station in control, or has another address
  abbrev pub Named : StationData → Present → Type 0
  Named st y = ((st ≡ holder) × IsOwn w past holder y) ⊎ ((st.terminal.address ≢ holder.terminal.address) × (st ≡ y.plan))

  is-named : (st : StationData) (y : Present) → IsThere w.lag w.plan w.loads w.outside w.absent past place holder st →
      told st ≡ loaded_at w.loads (length past) y → Named st y
  is-named st y here same = elim here [
    | inl is ↦ inl (is, sym own ∙ sym (ap told is) ∙ same)
    | inr other ↦ inr (apart other.0 st other.1 other.2, sym (plans st) ∙ ap (λ (q : Present). q.plan) same)
  ]

  found-own : (y : Present) (ys : List Present) → IsOwn w past holder y → find (is_at address) (y ∷ ys) ≡ Some y
  found-own y ys is =
      let test : is_at address y ≡ true =
      ap (λ (st : StationData). st.terminal.address == address) (sym (ap (λ (q : Present). q.plan) is))
      ∙ eq-eqb holder.terminal.address address named in rw test refl

  passed-other : (st : StationData) (y : Present) (ys : List Present) → st.terminal.address ≢ holder.terminal.address → st ≡ y.plan →
      find (is_at address) (y ∷ ys) ≡ find (is_at address) ys
  passed-other st y ys away is =
      let test : is_at address y ≡ false =
      ap (λ (z : StationData). z.terminal.address == address) (sym is)
      ∙ ap (λ a. st.terminal.address == a) (sym named) ∙ ne_eqb st.terminal.address holder.terminal.address away in rw test refl

  find-own : (xs : List StationData) (ys : List Present) → Beside Named xs ys → Has (λ x. x ≡ holder) xs →
      (y : Present) × (find (is_at address) ys ≡ Some y) × IsOwn w past holder y
  find-own [] [] pairs has = absurd has
  find-own [] (y ∷ ys) pairs has = absurd pairs
  find-own (x ∷ xs) [] pairs has = absurd pairs
  find-own (x ∷ xs) (y ∷ ys) pairs has = elim (pairs.0) [
    | inl is ↦ (y, found-own y ys is.1, is.1)
    | inr other ↦ (let rest = find-own xs ys pairs.1
        (elim has [ inl here ↦ absurd (other.0 (ap (λ (z : StationData). z.terminal.address) here)) | inr later ↦ later ]) in
        (rest.0, passed-other x y ys other.0 other.1 ∙ rest.1, rest.2))
  ]

  pub own-among : (y : Present) × (find (is_at address) stations ≡ Some y) × IsOwn w past holder y
  own-among =
      find-own (present_stations w.lag w.plan w.loads w.outside w.absent) stations
      (beside (IsThere w.lag w.plan w.loads w.outside w.absent past place holder) Named told
      (loaded_at w.loads (length past)) (present_stations w.lag w.plan w.loads w.outside w.absent) stations
      (all-there w.lag w.plan w.loads w.outside w.absent past place holder at.there) are is-named)
      (has-filter (is_present w.absent) w.plan.stations place holder at.there at.present)

-- likewise between two messages
pub own-station : (w : Scenario) (now : Trace) (place : ℕ) (holder : StationData) (stations : List Present) → Rested w now place holder stations →
    IsNamedApart w.plan place holder → (address : ℕ) → holder.terminal.address ≡ address →
    (y : Present) × (find (is_at address) stations ≡ Some y) × IsOwn w now.shown holder y
own-station w now place holder stations moment apart address named =
    own-among w now.shown place holder stations moment.at (λ st. present_of w st now.shown) refl (λ st. refl) moment.are apart address named

-- ---- no two stations of a run have one address

module _ (plan : PlanData) (run : Run) (own : List StationData) (is : IsRunAmong plan own run) where
  abbrev Of : StationData → Present → Type 0
  Of planned station = IsStationOf plan (not (planned.terminal.address == run.holder)) planned station

  same-addresses : (planned : List StationData) (stations : List Present) → AllZip Of planned stations →
      map address_of_station stations ≡ map (λ (s : StationData). s.terminal.address) planned
  same-addresses [] [] all = refl
  same-addresses [] (y ∷ ys) all = absurd all
  same-addresses (x ∷ xs) [] all = absurd all
  same-addresses (x ∷ xs) (y ∷ ys) all =
      ap (λ (s : StationData). s.terminal.address ∷ map address_of_station ys) all.0.plan_is
      ∙ ap (λ l. x.terminal.address ∷ l) (same-addresses xs ys all.1)

  pub stations-apart : AreNamedApart own → AreApart run.stations
  stations-apart apart = subst (AllPairs (λ a b. a ≢ b)) (sym (same-addresses own run.stations is.stations)) apart
