-- For which pasts the stations of a bus stand, with the attempts that they ended and what they delivered.
use Rattle.std.specs.Prelude.{◌≡◌, ℕ, suc, ◌+◌, ◌≤◌, nat_lt, Bool, true, false, if◌then◌else◌, List, [], ◌∷◌}
use Rattle.std.specs.Prelude.{◌++◌, length, take, map, flat_map, option_to_list, slice_get, Option, Some, vec_capacity}
use Rattle.bus_base.specs.declared.samples.Pair.{Pair}
use Rattle.bus_line.specs.declared.cutter.TheConstants.{LAG}
use Rattle.bus_formats.specs.Plans.{StationData, PlanData}
use Rattle.bus_formats.specs.declared.log.Attempt.{Attempt}
use Rattle.bus_formats.specs.declared.log.Delivery.{Delivery}
use Rattle.bus_model.specs.Starts.{starts}
use Rattle.bus_model.specs.World.{is_present}
use Rattle.bus_model.specs.WorldLog.{attempts}
use Rattle.bus_receiver.specs.Moments.{ReceiverStands}
use Rattle.bus_receiver.specs.declared.cutters.Cutters.{Cutters}
use Rattle.bus_station.specs.Listening.{InStep}
use Rattle.bus_station.specs.StationStands.{StationKeeps}
use Rattle.bus_station.specs.Told.{ended_newest}
use Rattle.bus_station.specs.declared.event.StationEvent.{StationEvent}
use Rattle.bus_station.specs.declared.role.Role.{Role}
use Rattle.bus_station.specs.declared.role.Role.TheVariants.{Taking}
use Rattle.bus_station.specs.declared.station.Station.{Station}
use Rattle.bus_run.specs.Amounts.{most_deliveries}
use Rattle.bus_run.specs.Called.{AreCalled}
use Rattle.bus_run.specs.Deliveries.{deliveries_in, is_delivering_in, delivering, taken_by, ObjectsIn, TellsMore}
use Rattle.bus_run.specs.Parts.{StationsStandIn, presence}
use Rattle.bus_run.specs.Settings.{Setting, alone}
use Rattle.bus_run.specs.declared.taken.TakenBlock.{TakenBlock}
use Rattle.bus_run.specs.declared.station_row.StationRow.{StationRow}

-- each station that is present is in step with these cutters
abbrev pub AreInStep : Setting → List Station → Cutters → List Pair → Type 0
AreInStep w stations bus past = (i : ℕ) (s : StationData) (value : Station) → slice_get w.plan.stations i ≡ Some s → slice_get stations i ≡ Some value →
    is_present w.absent s ≡ true → InStep LAG s (starts w.plan s) w.loads w.outside value bus past

-- the row knows which of its stations, at most 32, need each tick
pub record RowCalls (row : StationRow) : Type 0 where
  pub few : length row.stations.items ≤ 32
  pub called : AreCalled row.present.items row.stations.items row.places.items

-- the row stands for what the channels showed, with these attempts and so many ticks with a delivery; it has room for an attempt of each station
-- beside so many, and a place for the object of each
pub record RowKeeps (most : ℕ) (w : Setting) (found : List Attempt) (count : ℕ) (row : StationRow) (past : List Pair) : Type 0 where
  pub stations : StationsStandIn w row.stations.items past
  pub present_are : row.present.items ≡ presence w
  pub attempts_are : row.attempts.items ≡ found
  pub room : most + length row.stations.items ≤ vec_capacity row.attempts
  pub taken_room : length row.stations.items ≤ vec_capacity row.taken
  pub objects : ObjectsIn w row.objects.items
  pub delivering_is : row.delivering ≡ count
  pub delivering_few : count ≤ length past
  pub receiver : ReceiverStands LAG row.receiver past
  pub in_step : AreInStep w row.stations.items row.receiver.cutters past
  pub calls : RowCalls row

-- the row of a bus that is joined to nothing
abbrev pub RowStands : ℕ → PlanData → StationRow → List Pair → Type 0
RowStands most plan row past = RowKeeps most (alone plan) (attempts LAG plan [] [] [] past) (delivering plan past) row past

-- a station with this role is taking control
abbrev pub takes : Role → Bool
takes (Taking first) = true
takes _ = false

-- what a station noticed of the newest tick, and keeps until it is told
abbrev pub noticed_by : Station → StationEvent
noticed_by station = station.event

-- a block that the station's terminal took, with its address
abbrev pub taken_at : Station → Option Delivery → List TakenBlock
taken_at station o = map (λ d. record { address = station.address; delivery = d }) (option_to_list o)

-- ---- the newest tick

-- the attempt of a station that ended in the newest tick, where the station is present
abbrev pub ended_of : Setting → List Pair → StationData → List Attempt
ended_of w past s = if is_present w.absent s then ended_newest LAG s (starts w.plan s) w.loads w.outside past else []

-- the attempts that ended in the newest tick, in the order of the plan
abbrev pub ended_in : Setting → List Pair → List Attempt
ended_in w past = flat_map (ended_of w past) w.plan.stations

-- one tick more with a delivery, where there was one
abbrev pub count_after : Setting → List Pair → ℕ → ℕ
count_after w past count = if is_delivering_in w past w.plan.stations then suc count else count

-- ---- in the midst of a tick: the stations before this place heard it

abbrev pub heard_at : ℕ → ℕ → Pair → List Pair → List Pair
heard_at i place shown past = if nat_lt i place then shown ∷ past else past

-- a station that has heard the newest tick, or not yet: the receiver's cutters were and are these
abbrev pub KeepsAt : Setting → Cutters → Cutters → Pair → List Pair → StationData → Station → Bool → Type 0
KeepsAt w before after shown past s value heard =
    StationKeeps LAG s (starts w.plan s) w.loads w.outside value (if heard then shown ∷ past else past)
    × InStep LAG s (starts w.plan s) w.loads w.outside value (if heard then after else before) (if heard then shown ∷ past else past)

pub record RowHears (w : Setting) (found : List Attempt) (place : ℕ) (before : Cutters) (shown : Pair) (past : List Pair) (row : StationRow) : Type 0 where
  pub all : length row.stations.items ≡ length w.plan.stations
  pub present_are : row.present.items ≡ presence w
  pub each : (i : ℕ) (s : StationData) (value : Station) → slice_get w.plan.stations i ≡ Some s → slice_get row.stations.items i ≡ Some value →
      is_present w.absent s ≡ true → KeepsAt w before row.receiver.cutters shown past s value (nat_lt i place)
  pub attempts_are : row.attempts.items ≡ found ++ flat_map (ended_of w (shown ∷ past)) (take place w.plan.stations)
  pub taken_are : row.taken.items ≡ flat_map (taken_by w (shown ∷ past)) (take place w.plan.stations)
  pub objects : ObjectsIn w row.objects.items

-- of the objects those of the stations before this place tell the tick's deliveries too
pub record ObjectsHear (w : Setting) (objects : List (Option ℕ)) (before : List (Option (List Delivery))) (place : ℕ) (shown : Pair) (past : List Pair)
    (told : List (Option (List Delivery))) (spare : List ℕ) : Type 0 where
  pub all : length told ≡ length w.served
  pub all_before : length before ≡ length w.served
  pub all_spare : length spare ≡ length w.served
  pub tells : (i p : ℕ) (s : StationData) (old now : Option (List Delivery)) → slice_get w.plan.stations i ≡ Some s → slice_get objects i ≡ Some (Some p) →
      slice_get before p ≡ Some old → slice_get told p ≡ Some now → TellsMore old (deliveries_in w s (heard_at i place shown past)) now
  pub room : (i p : ℕ) (s : StationData) (n : ℕ) → slice_get w.plan.stations i ≡ Some s → slice_get objects i ≡ Some (Some p) →
      slice_get spare p ≡ Some n → most_deliveries w.plan + 1 ≤ n + length (deliveries_in w s (heard_at i place shown past))
