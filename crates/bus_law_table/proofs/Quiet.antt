-- Ticks in which no terminal takes a block, and quiet ticks of all stations: nothing happens in them.
use Rattle.std.proofs.Common.{◌≡◌, ◌≢◌, inl, inr, ℕ, zero, suc, ◌+◌, ◌≤◌, Bool, true, false, List, [], ◌∷◌, ◌++◌, length, Some, None, refl, sym, ap, ◌∙◌, arith}
use Rattle.std.proofs.lemmas.List.{append-nil}
use Rattle.std.specs.Prelude.{slice_get}
use Rattle.bus_base.specs.declared.samples.Channel.{Channel}
use Rattle.bus_base.specs.declared.samples.Channel.TheVariants.{A, B}
use Rattle.bus_base.specs.declared.samples.Pair.{Pair}
use Rattle.bus_line.specs.Past.{quiet_ticks, runs, ended_now}
use Rattle.bus_line.specs.Channels.{on_channel, bursts}
use Rattle.bus_formats.specs.Plans.{StationData, PlanData}
use Rattle.bus_model.specs.Memory.{TimedLoad}
use Rattle.bus_model.specs.Starts.{starts}
use Rattle.bus_model.specs.Terminal.{took_now}
use Rattle.bus_model.specs.Course.{Course}
use Rattle.bus_model.specs.Control.{OutsideTake, yielded_in, so_far, course_after, hearing_after}
use Rattle.bus_model.specs.World.{is_present}
use Rattle.bus_model.specs.WorldLog.{present_stations}
use Rattle.bus_base.specs.Samples.{quiet_pair, quiet_pairs}
use Rattle.bus_law_stations.specs.Silence.{NothingStarts, StationRests}
use Rattle.bus_law_stations.specs.Turns.{KeepsControl}
use Rattle.bus_law_stations.proofs.StillController.{pairs-long, fewer, still-course}
use Rattle.bus_law_stations.proofs.StillStation.{always-taken}
use Rattle.bus_law_messages.proofs.Pausing.{on-quiet}
use Rattle.bus_law_table.specs.Stations.{HeardNothing}
use Rattle.bus_law_table.specs.Happened.{took_in, blocks_in, blocks_found}
use Rattle.bus_law_table.proofs.AllStations.{IsThere, all-there, took-none}
use Rattle.bus_law_table.proofs.Pairing.{none-each}
use Rattle.bus_law_table.proofs.Still.{rests-takes}
use Rattle.bus_law_table.proofs.Takes.{unheard-takes, unheard-on}
use Rattle.bus_law_table.proofs.Ticks.{quiet-ends-not}

-- ---- no block

module _ (k : ℕ) (plan : PlanData) (loads : List TimedLoad) (outside : List OutsideTake) (absent : List ℕ) (place : ℕ) (holder : StationData) where
  abbrev pub IsHere : StationData → Type 0
  IsHere st = IsThere k plan loads outside absent [] place holder st

  -- in none of these ticks a terminal takes a block
  abbrev pub TakesNone : List Pair → List Pair → Type 0
  TakesNone past [] = Unit {0}
  TakesNone past (x ∷ ticks) =
      ((st : StationData) → IsHere st → took_now k st.terminal loads (hearing_after k st (starts plan st) loads outside (x ∷ (ticks ++ past))) ≡ None)
      × TakesNone past ticks

  pub blocks-none : slice_get plan.stations place ≡ Some holder → (past ticks : List Pair) → TakesNone past ticks →
      blocks_found k plan loads outside absent (ticks ++ past) ≡ blocks_found k plan loads outside absent past
  unfolding blocks_found
  blocks-none there past [] none = refl
  blocks-none there past (x ∷ ticks) none =
      let now = length (ticks ++ past) in
      let nothing : blocks_in k plan loads outside absent (x ∷ (ticks ++ past)) now ≡ [] =
      none-each IsHere (took_in k plan loads outside absent (x ∷ (ticks ++ past)) now) (present_stations k plan loads outside absent)
      (all-there k plan loads outside absent [] place holder there)
      (λ st here. took-none k plan loads outside absent past place holder st (x ∷ (ticks ++ past)) now (none.0 st here)) in
      ap (λ bs. blocks_found k plan loads outside absent (ticks ++ past) ++ bs) nothing
      ∙ append-nil (blocks_found k plan loads outside absent (ticks ++ past))
      ∙ blocks-none there past ticks none.1

  -- ---- quiet ticks

  module _ (past : List Pair) (unheard : HeardNothing k holder (starts plan holder) loads outside past) where
    pub quiet-takes : (n : ℕ) → KeepsControl k holder (starts plan holder) loads outside past (quiet_pairs n) →
        ((m : ℕ) → m ≤ n → (other : ℕ) (st : StationData) → slice_get plan.stations other ≡ Some st → other ≢ place → is_present absent st ≡ true →
        StationRests k st (starts plan st) loads outside past m) → TakesNone past (quiet_pairs n)
    quiet-takes zero controls rest = tt
    quiet-takes (suc n) controls rest = (
      λ st here. elim here [
        | inl same ↦ ap (λ (x : StationData). took_now k x.terminal loads (hearing_after k x (starts plan x) loads outside (quiet_pairs (suc n) ++ past))) same
            ∙ unheard-takes k holder (starts plan holder) loads outside quiet_pair (quiet_pairs n ++ past)
            (unheard-on k holder (starts plan holder) loads outside past (quiet_pairs (suc n)) unheard controls)
        | inr other ↦ rests-takes k plan loads outside absent st past n (rest (suc n) (omega arith) other.0 st other.1 other.2 other.3)
      ],
      quiet-takes n controls.2 (λ m few. rest m (omega (arith, few))),
    )

-- ---- no burst

pub pairs-quiet : (d : Channel) (n : ℕ) → on_channel d (quiet_pairs n) ≡ quiet_ticks n
pairs-quiet d n = ap (on_channel d) (sym (append-nil (quiet_pairs n))) ∙ on-quiet d n [] ∙ append-nil (quiet_ticks n)

pub pairs-many : (n : ℕ) → length (quiet_pairs n) ≡ n
pairs-many n = let both : length (quiet_pairs n ++ []) ≡ n + 0 = pairs-long n [] in ap length (sym (append-nil (quiet_pairs n))) ∙ omega (arith, both)

pub quiet-bursts : (k n : ℕ) (past : List Pair) → ((d : Channel) → runs k (on_channel d past) ≡ false) → bursts k (quiet_pairs n ++ past) ≡ bursts k past
unfolding bursts
quiet-bursts k zero past rests = refl
quiet-bursts k (suc n) past rests =
    let many : length (quiet_pairs (suc n)) ≡ suc n = pairs-many (suc n) in
    let none : (d : Channel) → ended_now k (on_channel d (quiet_pair ∷ (quiet_pairs n ++ past))) ≡ None =
    λ d. quiet-ends-not k d quiet_pair (quiet_pairs n) past (rests d) (pairs-quiet d (suc n) ∙ ap quiet_ticks (sym many)) in
    rw (none A, none B) (append-nil (bursts k (quiet_pairs n ++ past)) ∙ quiet-bursts k n past rests)

-- ---- the station in control

pub quiet-kept : (k : ℕ) (station : StationData) (starts : Bool) (loads : List TimedLoad) (outside : List OutsideTake) (past : List Pair) →
    (course_after k station starts loads outside past).holds ≡ true →
    ((tick : ℕ) → length past ≤ tick → yielded_in tick (course_after k station starts loads outside past).ended ≡ false) → (n : ℕ) →
    NothingStarts k (course_after k station starts loads outside past) past n → KeepsControl k station starts loads outside past (quiet_pairs n)
quiet-kept k station starts loads outside past holds before zero none = tt
quiet-kept k station starts loads outside past holds before (suc n) none =
    let c = course_after k station starts loads outside past in
    let takes = (so_far k station starts loads outside past).takes in
    let taken = always-taken k station starts loads outside past in
    let long : length (quiet_pairs n ++ past) ≡ n + length past = pairs-long n past in (
      ap (λ (d : Course). d.holds) (still-course k station starts takes past n taken (fewer k c past n none)) ∙ holds,
      ap (λ (d : Course). yielded_in (length (quiet_pairs n ++ past)) d.ended) (still-course k station starts takes past (suc n) taken none)
          ∙ before (length (quiet_pairs n ++ past)) (omega (arith, long)),
      quiet-kept k station starts loads outside past holds before n (fewer k c past n none),
    )
