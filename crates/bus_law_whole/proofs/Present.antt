-- A run by the stations that are present goes on as one by all of them does.
use Rattle.std.proofs.Common.{◌≢◌, ℕ, suc, Bool, true, false, List, [], ◌∷◌, map, arith}
use Rattle.std.proofs.lemmas.List.Elements.{All-cons, recursion_from_All}
use Rattle.std.proofs.lemmas.List.Kept.{AllPairs-cons}
use Rattle.std.specs.Prelude.{filter, if◌then◌else◌, All}
use Rattle.std.specs.List.{AllByRecursion as Each}
use Rattle.bus_formats.specs.Accepted.{IsAccepted, HasStationRanges}
use Rattle.bus_formats.specs.Plans.{StationData}
use Rattle.bus_model.specs.Run.{Run, attempt}
use Rattle.bus_model.specs.World.{is_present}
use Rattle.bus_model.specs.WorldLog.{present_stations}
use Rattle.bus_law_plans.specs.Entries.{AreNamedApart}
use Rattle.bus_law_plans.proofs.NextRun.{attempt-among}
use Rattle.bus_law_plans.proofs.Ranged.{attempt-ranges}
use Rattle.bus_law_plans.proofs.Stations.{apart-from}
use Rattle.bus_law_plans.proofs.Superseded.{attempt-superseded}
use Rattle.bus_law_phases.specs.Scenarios.{Scenario}
use Rattle.bus_law_run.specs.WholeRun.{IsAcceptedBus}
use Rattle.bus_law_whole.specs.RunStands.{MayGoOn, IsRunByPresent}
use Rattle.bus_law_whole.proofs.Begins.{may-go-on}

-- ---- of some stations holds what holds of all

abbrev addresses_of : List StationData → List ℕ
addresses_of stations = map (λ (s : StationData). s.terminal.address) stations

all-either : (P : ℕ → Type 0) (b : Bool) (s : StationData) (kept : List StationData) → P s.terminal.address → All P (addresses_of kept) →
    All P (addresses_of (if b then s ∷ kept else kept))
all-either P true s kept own rest = All-cons P s.terminal.address (addresses_of kept) own rest
all-either P false s kept own rest = rest

all-some : (P : ℕ → Type 0) (test : StationData → Bool) (stations : List StationData) → All P (addresses_of stations) →
    All P (addresses_of (filter test stations))
all-some P test [] all = all
all-some P test (s ∷ stations) all =
    all-either P (test s) s (filter test stations) (all 0 s.terminal.address (omega arith))
    (all-some P test stations (λ i d low. all (suc i) d (omega (arith, low))))

apart-either : (b : Bool) (s : StationData) (kept : List StationData) → All (λ a. s.terminal.address ≢ a) (addresses_of kept) → AreNamedApart kept →
    AreNamedApart (if b then s ∷ kept else kept)
apart-either true s kept own rest = AllPairs-cons (λ a b. a ≢ b) s.terminal.address (addresses_of kept) own rest
apart-either false s kept own rest = rest

apart-some : (test : StationData → Bool) (stations : List StationData) → AreNamedApart stations → AreNamedApart (filter test stations)
apart-some test [] all = all
apart-some test (s ∷ stations) all =
    apart-either (test s) s (filter test stations)
    (all-some (λ a. s.terminal.address ≢ a) test stations (λ i d low. all 0 (suc i) d (omega arith) (omega (arith, low))))
    (apart-some test stations (λ i j d low high. all (suc i) (suc j) d (omega (arith, low)) (omega (arith, high))))

each-either : (P : StationData → Type 0) (b : Bool) (s : StationData) (kept : List StationData) → P s → Each P kept → Each P (if b then s ∷ kept else kept)
each-either P true s kept own rest = (own, rest)
each-either P false s kept own rest = rest

each-some : (P : StationData → Type 0) (test : StationData → Bool) (stations : List StationData) → Each P stations → Each P (filter test stations)
each-some P test [] all = tt
each-some P test (s ∷ stations) all = each-either P (test s) s (filter test stations) all.0 (each-some P test stations all.1)

-- ---- the stations that are present

module _ (w : Scenario) (accepted : IsAccepted w.plan) where
  abbrev own : List StationData
  own = present_stations w.lag w.plan w.loads w.outside w.absent

  named : AreNamedApart (present_stations w.lag w.plan w.loads w.outside w.absent)
  named = apart-some (is_present w.absent) w.plan.stations accepted.apart

  ranged : Each HasStationRanges (present_stations w.lag w.plan w.loads w.outside w.absent)
  ranged = each-some HasStationRanges (is_present w.absent) w.plan.stations (recursion_from_All HasStationRanges w.plan.stations accepted.ranges)

  pub present-goes-on : (run : Run) → IsRunByPresent w run → MayGoOn w run
  present-goes-on run is = may-go-on w own run named ranged is.of is.words is.superseding

-- an attempt keeps a run one by the stations that are present
pub attempt-by-present : (w : Scenario) (run : Run) → IsAcceptedBus w → IsRunByPresent w run → IsRunByPresent w (attempt w.lag w.loads w.plan.faults run)
attempt-by-present w run bus is = record {
  of = attempt-among w.lag w.plan w.loads (own w bus.accepted) run (apart-from (addresses_of (own w bus.accepted)) (named w bus.accepted)) is.of;
  words = attempt-ranges w.lag w.plan w.loads run bus.blocks is.of is.words;
  superseding = attempt-superseded w.lag w.plan w.loads run bus.accepted is.of is.superseding;
}
