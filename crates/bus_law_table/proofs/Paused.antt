-- The stations before the first message, and between two messages.
use Rattle.std.proofs.Common.{◌≡◌, ◌≢◌, inl, inr, ℕ, ◌+◌, ◌≤◌, true, List, [], ◌∷◌, ◌++◌, length, map, Some, refl, sym, ap, ◌∙◌, subst, arith}
use Rattle.std.specs.Prelude.{slice_get}
use Rattle.bus_base.specs.declared.samples.Pair.{Pair}
use Rattle.bus_line.specs.Channels.{bursts}
use Rattle.bus_formats.specs.Plans.{StationData, PlanData}
use Rattle.bus_model.specs.Memory.{TimedLoad}
use Rattle.bus_model.specs.Message.{Present}
use Rattle.bus_model.specs.Run.{first_present}
use Rattle.bus_model.specs.Starts.{starts}
use Rattle.bus_model.specs.Terminal.{standing}
use Rattle.bus_model.specs.Course.{Course, course}
use Rattle.bus_model.specs.Control.{OutsideTake, so_far, course_after}
use Rattle.bus_model.specs.World.{Trace, is_present, trace, ticks_on}
use Rattle.bus_model.specs.WorldLog.{present_stations, present_after}
use Rattle.bus_base.specs.Samples.{quiet_pairs}
use Rattle.bus_law_stations.specs.Silence.{StationRests}
use Rattle.bus_law_stations.specs.Turns.{KeepsControl}
use Rattle.bus_law_messages.specs.Settled.{Settled, NoneTakes, NoneStarts}
use Rattle.bus_law_messages.proofs.Pausing.{same-course, nothing-starts}
use Rattle.bus_law_messages.proofs.Sending.{shown-long}
use Rattle.bus_law_messages.proofs.StaysSettled.{pause}
use Rattle.bus_law_table.specs.Stations.{loaded_at, ArePresent, HeardNothing}
use Rattle.bus_law_table.specs.Happened.{blocks_found}
use Rattle.bus_law_table.proofs.AllStations.{IsThere, all-there}
use Rattle.bus_law_table.proofs.Pairing.{beside, beside-map, map-map}
use Rattle.bus_law_table.proofs.Quiet.{quiet-takes, blocks-none, quiet-bursts, quiet-kept}
use Rattle.bus_law_table.proofs.Still.{still-told, rests-told, serving-rests}
use Rattle.bus_law_table.proofs.Takes.{unheard-on, unheard-memory}

-- ---- before the first tick

first-station : (k : ℕ) (plan : PlanData) (loads : List TimedLoad) (outside : List OutsideTake) (absent : List ℕ) (station : StationData) →
    present_after k plan loads outside absent [] station ≡ loaded_at loads 0 (first_present plan station)
unfolding so_far course standing
first-station k plan loads outside absent station = refl

map-same : {X Y : Type 0} (f g : X → Y) (xs : List X) → ((x : X) → f x ≡ g x) → map f xs ≡ map g xs
map-same f g [] same = refl
map-same f g (x ∷ xs) same = ap (λ y. y ∷ map f xs) (same x) ∙ ap (λ ys. g x ∷ ys) (map-same f g xs same)

pub first-present : (k : ℕ) (plan : PlanData) (loads : List TimedLoad) (outside : List OutsideTake) (absent : List ℕ) →
    ArePresent k plan loads outside absent (trace k plan loads outside absent 0).shown
    (map (first_present plan) (present_stations k plan loads outside absent))
unfolding ticks_on
first-present k plan loads outside absent =
    map-same (present_after k plan loads outside absent []) (λ station. loaded_at loads 0 (first_present plan station))
    (present_stations k plan loads outside absent) (first-station k plan loads outside absent)
    ∙ sym (map-map (loaded_at loads 0) (first_present plan) (present_stations k plan loads outside absent))

pub first-unheard : (k : ℕ) (plan : PlanData) (loads : List TimedLoad) (outside : List OutsideTake) (absent : List ℕ) (holder : StationData) →
    HeardNothing k holder (starts plan holder) loads outside (trace k plan loads outside absent 0).shown
unfolding ticks_on so_far
first-unheard k plan loads outside absent holder = refl

-- ---- a pause

module _ (k : ℕ) (plan : PlanData) (loads : List TimedLoad) (outside : List OutsideTake) (absent : List ℕ) (before : Trace) (place : ℕ)
    (holder : StationData) (settled : Settled k plan loads outside absent before place holder)
    (unheard : HeardNothing k holder (starts plan holder) loads outside before.shown) (n : ℕ)
    (waits : NoneStarts (course_after k holder (starts plan holder) loads outside before.shown) before.shown n)
    (stays : NoneTakes k plan loads outside place (length before.shown) (length before.shown + n)) where
  abbrev past : List Pair
  past = before.shown

  abbrev c : Course
  c = course_after k holder (starts plan holder) loads outside before.shown

  kept : KeepsControl k holder (starts plan holder) loads outside past (quiet_pairs n)
  kept =
      quiet-kept k holder (starts plan holder) loads outside past settled.controls.holds settled.controls.before n
      (nothing-starts k c past n settled.controls.idle waits)

  rests : (i : ℕ) → i ≤ n → (other : ℕ) (st : StationData) → slice_get plan.stations other ≡ Some st → other ≢ place → is_present absent st ≡ true →
      StationRests k st (starts plan st) loads outside past i
  rests i few other st here off is =
      serving-rests k plan loads outside absent st past (settled.others other st here off is) i
      (λ tick low high. stays other st here off tick low (omega (arith, high, few)))

  own-still : (y : Present) → present_after k plan loads outside absent past holder ≡ loaded_at loads (length past) y →
      present_after k plan loads outside absent (quiet_pairs n ++ past) holder ≡ loaded_at loads (length (quiet_pairs n ++ past)) y
  own-still y same =
      still-told k plan loads outside absent holder past (quiet_pairs n) y same
      (same-course k holder (starts plan holder) loads outside past settled.controls.holds settled.controls.before n
      (nothing-starts k c past n settled.controls.idle waits))
      (unheard-memory k holder (starts plan holder) loads outside past (quiet_pairs n) unheard kept)

  abbrev Same : StationData → Present → Type 0
  Same st y =
      present_after k plan loads outside absent (quiet_pairs n ++ past) st ≡ loaded_at loads (length (quiet_pairs n ++ past)) y

  still : (st : StationData) (y : Present) → IsThere k plan loads outside absent past place holder st →
      present_after k plan loads outside absent past st ≡ loaded_at loads (length past) y → Same st y
  still st y here same = elim here [
    | inl is ↦ ap (present_after k plan loads outside absent (quiet_pairs n ++ past)) is
        ∙ own-still y (sym (ap (present_after k plan loads outside absent past) is) ∙ same)
    | inr other ↦ rests-told k plan loads outside absent st past n (rests n (omega arith) other.0 st other.1 other.2 other.3) y same
  ]

  pub pause-present : (stations : List Present) → ArePresent k plan loads outside absent past stations →
      ArePresent k plan loads outside absent (quiet_pairs n ++ past) stations
  pause-present stations are =
      beside-map Same (present_after k plan loads outside absent (quiet_pairs n ++ past)) (loaded_at loads (length (quiet_pairs n ++ past)))
      (present_stations k plan loads outside absent) stations
      (beside (IsThere k plan loads outside absent past place holder) Same (present_after k plan loads outside absent past) (loaded_at loads (length past))
      (present_stations k plan loads outside absent) stations (all-there k plan loads outside absent past place holder settled.there) are still)
      (λ st y same. same)

  pub pause-unheard : HeardNothing k holder (starts plan holder) loads outside (quiet_pairs n ++ past)
  pause-unheard = unheard-on k holder (starts plan holder) loads outside past (quiet_pairs n) unheard kept

  pub pause-blocks : blocks_found k plan loads outside absent (quiet_pairs n ++ past) ≡ blocks_found k plan loads outside absent past
  pause-blocks =
      blocks-none k plan loads outside absent place holder settled.there past (quiet_pairs n)
      (quiet-takes k plan loads outside absent place holder past unheard n kept rests)

  pub pause-bursts : bursts k (quiet_pairs n ++ past) ≡ bursts k past
  pause-bursts = quiet-bursts k n past settled.rests

pub pause-at : (k : ℕ) (plan : PlanData) (loads : List TimedLoad) (outside : List OutsideTake) (absent : List ℕ) (t place : ℕ) (holder : StationData)
    (stations : List Present) (n : ℕ) → let before : Trace = trace k plan loads outside absent t in
    let after : Trace = trace k plan loads outside absent (t + n) in
    let c : Course = course_after k holder (starts plan holder) loads outside before.shown in
    Settled k plan loads outside absent before place holder → HeardNothing k holder (starts plan holder) loads outside before.shown →
    NoneStarts c before.shown n → NoneTakes k plan loads outside place t (t + n) → ArePresent k plan loads outside absent before.shown stations →
    ArePresent k plan loads outside absent after.shown stations
    × HeardNothing k holder (starts plan holder) loads outside after.shown
    × (blocks_found k plan loads outside absent after.shown ≡ blocks_found k plan loads outside absent before.shown)
    × (bursts k after.shown ≡ bursts k before.shown)
pause-at k plan loads outside absent t place holder stations n settled unheard waits stays are =
    let before : Trace = trace k plan loads outside absent t in
    let long : length before.shown ≡ t = shown-long k plan loads outside absent t in
    let p = pause k plan loads outside absent t place holder n settled waits stays in
    let here : NoneTakes k plan loads outside place (length before.shown) (length before.shown + n) =
    λ other st there off tick low high. stays other st there off tick (omega (arith, low, long)) (omega (arith, high, long)) in (
      subst (λ sh. ArePresent k plan loads outside absent sh stations) (sym p.0)
          (pause-present k plan loads outside absent before place holder settled unheard n waits here stations are),
      subst (λ sh. HeardNothing k holder (starts plan holder) loads outside sh) (sym p.0)
          (pause-unheard k plan loads outside absent before place holder settled unheard n waits here),
      ap (blocks_found k plan loads outside absent) p.0 ∙ pause-blocks k plan loads outside absent before place holder settled unheard n waits here,
      ap (bursts k) p.0 ∙ pause-bursts k plan loads outside absent before place holder settled unheard n waits here,
    )
