-- What a block that is put up for sending does to each station.
use Rattle.std.specs.Prelude.{◌≡◌, ◌<◌, ◌≤◌, ℕ, ◌++◌, [], ◌∷◌, Bool, List, length, slice_get, Some}
use Rattle.bus_base.specs.declared.samples.Pair.{Pair}
use Rattle.bus_line.specs.declared.cutter.TheConstants.{LAG}
use Rattle.bus_formats.specs.Plans.{StationData}
use Rattle.bus_model.specs.Memory.{TimedLoad}
use Rattle.bus_model.specs.Control.{OutsideTake}
use Rattle.bus_receiver.specs.declared.cutters.Cutters.{Cutters}
use Rattle.bus_station.specs.Listening.{InStep}
use Rattle.bus_station.specs.StationStands.{StationKeeps}
use Rattle.bus_station.specs.declared.station.Station.{Station}

-- the loads of a history with one more at its last tick
abbrev pub loads_with : List TimedLoad → List Pair → ℕ → ℕ → List ℕ → List TimedLoad
loads_with loads past address sub words = loads ++ record { tick = length past; address = address; sub = sub; words = words } ∷ []

-- a station before and after it: it keeps what the loads with this one leave, and is in step as before
pub record TakesLoad (address sub : ℕ) (words : List ℕ) (old new : Station) : Type 0 where
  pub keeps : (s : StationData) (starts : Bool) (loads : List TimedLoad) (outside : List OutsideTake) (shown : Pair) (past : List Pair) →
      StationKeeps LAG s starts loads outside old (shown ∷ past) →
      StationKeeps LAG s starts (loads_with loads past address sub words) outside new (shown ∷ past)
  pub in_step : (s : StationData) (starts : Bool) (loads : List TimedLoad) (outside : List OutsideTake) (bus : Cutters) (shown : Pair) (past : List Pair) →
      StationKeeps LAG s starts loads outside old (shown ∷ past) → InStep LAG s starts loads outside old bus (shown ∷ past) →
      InStep LAG s starts (loads_with loads past address sub words) outside new bus (shown ∷ past)

-- the stations before a place took it, and the others stand as at first
pub record AreLoaded (address sub : ℕ) (words : List ℕ) (place : ℕ) (first now : List Station) : Type 0 where
  pub all : length now ≡ length first
  pub done : (i : ℕ) (old new : Station) → i < place → slice_get first i ≡ Some old → slice_get now i ≡ Some new → TakesLoad address sub words old new
  pub rest : (i : ℕ) → place ≤ i → slice_get now i ≡ slice_get first i
