-- The ticks of the frames before the next items of all stations grow with each item that is done.
use Rattle.std.proofs.Common.{◌≡◌, inl, inr, ℕ, zero, suc, ◌+◌, ◌≤◌, Bool, true, false, List, [], ◌∷◌, drop, Some, refl, sym, ap, ◌∙◌, subst, arith}
use Rattle.std.proofs.lemmas.Bool.{cases_Bool}
use Rattle.std.proofs.lemmas.List.Sums.{sum_by-cons}
use Rattle.std.proofs.lemmas.Option.{none-some, same_Some}
use Rattle.std.specs.Prelude.{if◌then◌else◌, find, sum_by, not, ◌==◌}
use Rattle.std.specs.List.{AllByRecursion as Each, AllZip}
use Rattle.bus_formats.specs.Plans.{StationData, PlanData}
use Rattle.bus_formats.specs.declared.form.Outcome.{Outcome}
use Rattle.bus_retry.specs.declared.Choice.TheVariants.{Done}
use Rattle.bus_model.specs.Attempts.{Begun}
use Rattle.bus_model.specs.Message.{Present}
use Rattle.bus_model.specs.Run.{is_at, with_station, after_attempt}
use Rattle.bus_model.specs.Starts.{Entry, agenda}
use Rattle.bus_law_plans.specs.Amounts.{station_ticks, ticks_before, Rises}
use Rattle.bus_law_plans.specs.Bounds.{frame_ticks_before}
use Rattle.bus_law_plans.specs.Entries.{IsStationOf, AreStationsOf}
use Rattle.bus_law_plans.proofs.Agreed.{agreed}
use Rattle.bus_law_plans.proofs.Lists.{zip-second, drop-none}
use Rattle.bus_law_plans.proofs.Messages.{IsKept}
use Rattle.bus_law_plans.proofs.Stations.{find-here, find-later}

-- ---- one station

-- the ticks of the frames before the next item of a station
abbrev pub begun-by : Present → ℕ
begun-by s = ticks_before s.plan s.left

-- they don't fall from item to item
abbrev pub IsRising : Present → Type 0
IsRising s = Rises s.plan s.left

rises-drop : (station : StationData) (n : ℕ) (entries : List Entry) → Rises station entries → Rises station (drop n entries)
rises-drop station zero [] h = tt
rises-drop station zero (e ∷ entries) h = h
rises-drop station (suc n) [] h = tt
rises-drop station (suc n) (e ∷ entries) h = rises-drop station n entries h.1

-- they are never more than those of all frames
pub rises-low : (station : StationData) (entries : List Entry) → Rises station entries → ticks_before station entries ≤ station_ticks station
rises-low station [] h = omega arith
rises-low station (e ∷ entries) h = omega (arith, h.0, rises-low station entries h.1)

-- so it is with each station of a run
pub station-rising : (plan : PlanData) (serving : Bool) (own : StationData) (s : Present) → IsStationOf plan serving own s → IsRising s
station-rising plan serving own s is =
    subst (λ p. Rises p s.left) (sym is.plan_is)
    (subst (Rises own) (sym is.rest.1) (rises-drop own is.rest.0 (agenda own) (agreed own).rises))

-- they don't fall where an entry more is done
dropped : (s : Present) → IsRising s → begun-by s ≤ ticks_before s.plan (drop 1 s.left)
dropped s rising = by-left s.left rising
  where
    by-left : (left : List Entry) → Rises s.plan left → ticks_before s.plan left ≤ ticks_before s.plan (drop 1 left)
    by-left [] h = omega arith
    by-left (e ∷ later) h = omega (arith, h.0, ap (ticks_before s.plan) (drop-none later))

-- ---- all stations

cons : (s : Present) (stations : List Present) → frame_ticks_before (s ∷ stations) ≡ begun-by s + frame_ticks_before stations
cons s stations = sum_by-cons begun-by s stations

-- a change that leaves the items
pub same-changed : (address : ℕ) (change : Present → Present) → ((s : Present) → begun-by (change s) ≡ begun-by s) → (stations : List Present) →
    frame_ticks_before (with_station address change stations) ≡ frame_ticks_before stations
same-changed address change h [] = refl
same-changed address change h (s ∷ stations) =
    let now : Present = if is_at address s then change s else s in
    let own : begun-by now ≡ begun-by s = by-test (is_at address s) in
    omega (arith, own, same-changed address change h stations, cons s stations, cons now (with_station address change stations))
  where
    by-test : (b : Bool) → begun-by (if b then change s else s) ≡ begun-by s
    by-test true = h s
    by-test false = refl

-- a message leaves them
pub same-kept : (before later : List Present) → AllZip IsKept before later → frame_ticks_before later ≡ frame_ticks_before before
same-kept [] [] all = refl
same-kept [] (t ∷ later) all = absurd all
same-kept (s ∷ before) [] all = absurd all
same-kept (s ∷ before) (t ∷ later) all =
    let own : begun-by t ≡ begun-by s = ap (λ p. ticks_before p t.left) all.0.plan_is ∙ ap (ticks_before s.plan) all.0.left_is in
    omega (arith, own, same-kept before later all.1, cons s before, cons t later)

module _ (address : ℕ) (begun : Begun) (outcome : Outcome) where
  abbrev done : Present → Present
  done s = after_attempt begun outcome Done s

  one-grows : (s : Present) → IsRising s → (b : Bool) → begun-by s ≤ begun-by (if b then done s else s)
  one-grows s rising true = dropped s rising
  one-grows s rising false = omega arith

  -- they don't fall where an item is done
  pub all-grow : (stations : List Present) → Each IsRising stations → frame_ticks_before stations ≤ frame_ticks_before (with_station address done stations)
  all-grow [] all = omega arith
  all-grow (s ∷ stations) all =
      omega (
        arith,
        one-grows s all.0 (is_at address s),
        all-grow stations all.1,
        cons s stations,
        cons (if is_at address s then done s else s) (with_station address done stations),
      )

  -- by the ticks between the item that is done and the next
  pub found-grows : (stations : List Present) (s : Present) (entry : Entry) (later : List Entry) → Each IsRising stations → find (is_at address) stations ≡ Some s →
      s.left ≡ entry ∷ later → frame_ticks_before stations + ticks_before s.plan later ≤ frame_ticks_before (with_station address done stations) + entry.offset
  found-grows [] s entry later all found left = absurd (none-some s found)
  found-grows (t ∷ stations) s entry later all found left = elim (cases_Bool (is_at address t)) [
    | inl here ↦
        let same : t ≡ s = same_Some t s (sym (find-here address t stations here) ∙ found) in
        let before : begun-by t ≡ entry.offset = ap begun-by same ∙ ap (ticks_before s.plan) left in
        let after : begun-by (if is_at address t then done t else t) ≡ ticks_before s.plan later =
        ap (λ b. begun-by (if b then done t else t)) here ∙ (ap (λ x. begun-by (done x)) same ∙ (ap (λ l. ticks_before s.plan (drop 1 l)) left ∙ ap (ticks_before s.plan) (drop-none later))) in
        omega (
          arith,
          before,
          after,
          all-grow stations all.1,
          cons t stations,
          cons (if is_at address t then done t else t) (with_station address done stations),
        )
    | inr other ↦
        let rest = found-grows stations s entry later all.1 (sym (find-later address t stations other) ∙ found) left in
        omega (
          arith,
          rest,
          one-grows t all.0 (is_at address t),
          cons t stations,
          cons (if is_at address t then done t else t) (with_station address done stations),
        )
  ]

-- those of one station are a part of all
pub found-part : (address : ℕ) (stations : List Present) (s : Present) → find (is_at address) stations ≡ Some s → begun-by s ≤ frame_ticks_before stations
found-part address [] s found = absurd (none-some s found)
found-part address (t ∷ stations) s found = elim (cases_Bool (is_at address t)) [
  | inl here ↦
      let same : begun-by t ≡ begun-by s = ap begun-by (same_Some t s (sym (find-here address t stations here) ∙ found)) in
      omega (arith, same, cons t stations)
  | inr other ↦ omega (arith, found-part address stations s (sym (find-later address t stations other) ∙ found), cons t stations)
]

-- and with all of them
pub all-rising : (plan : PlanData) (holder : ℕ) (own : List StationData) (stations : List Present) → AreStationsOf plan holder own stations → Each IsRising stations
all-rising plan holder own stations all =
    zip-second (λ (o : StationData) (s : Present). IsStationOf plan (not (o.terminal.address == holder)) o s) IsRising
    (λ o s is. station-rising plan _ o s is) own stations all

-- no more than the ticks of all frames
pub begun-low : (plan : PlanData) (holder : ℕ) (own : List StationData) (stations : List Present) → AreStationsOf plan holder own stations →
    frame_ticks_before stations ≤ sum_by station_ticks own
begun-low plan holder [] [] all = omega arith
begun-low plan holder [] (s ∷ stations) all = absurd all
begun-low plan holder (o ∷ own) [] all = absurd all
begun-low plan holder (o ∷ own) (s ∷ stations) all =
    let low : begun-by s ≤ station_ticks s.plan = rises-low s.plan s.left (station-rising plan _ o s all.0) in
    let same : station_ticks s.plan ≡ station_ticks o = ap station_ticks all.0.plan_is in
    omega (arith, low, same, begun-low plan holder own stations all.1, cons s stations, sum_by-cons station_ticks o own)
