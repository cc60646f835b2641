-- What the terminals of a run take, and the objects of the subsystems that it is delivered to.
use Rattle.std.specs.Prelude.{◌≡◌, ◌≢◌, ℕ, suc, ◌+◌, ◌≤◌, if◌then◌else◌, Bool, List, [], ◌∷◌, ◌++◌, length, map, flat_map, option_to_list, slice_get}
use Rattle.std.specs.Prelude.{Option, Some, None, is_some, ⊤}
use Rattle.std.specs.List.{list_any}
use Rattle.bus_base.specs.declared.samples.Pair.{Pair}
use Rattle.bus_line.specs.declared.cutter.TheConstants.{LAG}
use Rattle.bus_formats.specs.Plans.{StationData, PlanData}
use Rattle.bus_formats.specs.declared.log.Delivery.{Delivery}
use Rattle.bus_model.specs.Starts.{starts}
use Rattle.bus_model.specs.World.{is_present}
use Rattle.bus_station.specs.Told.{delivered_newest}
use Rattle.bus_subsystem.specs.Deliveries.{Takes}
use Rattle.bus_run.specs.Amounts.{most_deliveries}
use Rattle.bus_run.specs.Settings.{Setting, alone}
unfoldable pub use Rattle.bus_run.specs.Settings.{served}
use Rattle.bus_run.specs.declared.taken.TakenBlock.{TakenBlock}

-- ---- what the terminals take

module _ (w : Setting) where
  -- the block that a station's terminal took whole in the newest tick, where the station is present
  abbrev pub delivered_in : List Pair → StationData → Option Delivery
  delivered_in past s =
      if is_present w.absent s then delivered_newest LAG s (starts w.plan s) w.loads w.outside past else None

  -- the blocks that a station's terminal took whole, in order
  unfoldable pub deliveries_in : StationData → List Pair → List Delivery
  deliveries_in s [] = []
  deliveries_in s (shown ∷ past) = deliveries_in s past ++ option_to_list (delivered_in (shown ∷ past) s)

  -- whether the terminal of one of these stations took a block in the newest tick
  abbrev pub is_delivering_in : List Pair → List StationData → Bool
  is_delivering_in past stations = list_any (λ s. is_some (delivered_in past s)) stations

  -- that block, if there is one, with the address of the terminal
  abbrev pub taken_by : List Pair → StationData → List TakenBlock
  taken_by past s = map (λ d. record { address = s.terminal.address; delivery = d }) (option_to_list (delivered_in past s))

  -- the blocks that the terminals took in the newest tick, in the order of the plan
  abbrev pub taken_in : List Pair → List TakenBlock
  taken_in past = flat_map (taken_by past) w.plan.stations

-- the same of a bus that is joined to nothing
abbrev pub delivered_of : PlanData → List Pair → StationData → Option Delivery
delivered_of plan past s = delivered_in (alone plan) past s

abbrev pub deliveries : PlanData → StationData → List Pair → List Delivery
deliveries plan s past = deliveries_in (alone plan) s past

abbrev pub is_delivering : PlanData → List Pair → List StationData → Bool
is_delivering plan past stations = is_delivering_in (alone plan) past stations

-- in how many ticks some terminal took a block
unfoldable pub delivering : PlanData → List Pair → ℕ
delivering plan [] = 0
delivering plan (shown ∷ past) =
    if is_delivering plan (shown ∷ past) plan.stations then suc (delivering plan past) else delivering plan past

-- ---- which stations have an object

-- for each station of the plan, in its order, the place of its object, if it has one. Each object is that of one station
pub record ObjectsIn (w : Setting) (objects : List (Option ℕ)) : Type 0 where
  pub all : length objects ≡ length w.plan.stations
  pub there : (i p : ℕ) (s : StationData) → slice_get w.plan.stations i ≡ Some s → slice_get objects i ≡ Some (Some p) → slice_get w.served p ≡ Some s
  pub whole : (p : ℕ) (s : StationData) → slice_get w.served p ≡ Some s →
      (i : ℕ) × (slice_get w.plan.stations i ≡ Some s) × (slice_get objects i ≡ Some (Some p))
  pub apart : (i j p : ℕ) → slice_get objects i ≡ Some (Some p) → slice_get objects j ≡ Some (Some p) → i ≡ j

abbrev pub ObjectsOf : PlanData → List (Option ℕ) → Type 0
ObjectsOf plan objects = ObjectsIn (alone plan) objects

-- ---- what the objects tell, and their room

-- what is told before and after more deliveries: they follow in order, and whether they are told stays
abbrev pub TellsMore : Option (List Delivery) → List Delivery → Option (List Delivery) → Type 0
TellsMore None more None = ⊤
TellsMore None more (Some now) = ⊥
TellsMore (Some old) more None = ⊥
TellsMore (Some old) more (Some now) = now ≡ old ++ more

-- objects that told `before` at the start of the run tell in addition what their terminals took; and they have room for all that may come.
-- What they tell and their room, in their order
pub record ServesIn (w : Setting) (before : List (Option (List Delivery))) (past : List Pair) (told : List (Option (List Delivery)))
    (spare : List ℕ) : Type 0 where
  pub all : length told ≡ length w.served
  pub all_before : length before ≡ length w.served
  pub all_spare : length spare ≡ length w.served
  pub tells : (p : ℕ) (s : StationData) (old now : Option (List Delivery)) → slice_get w.served p ≡ Some s → slice_get before p ≡ Some old →
      slice_get told p ≡ Some now → TellsMore old (deliveries_in w s past) now
  pub room : (p : ℕ) (s : StationData) (n : ℕ) → slice_get w.served p ≡ Some s → slice_get spare p ≡ Some n →
      most_deliveries w.plan + 1 ≤ n + length (deliveries_in w s past)

abbrev pub Serves : PlanData → List (Option (List Delivery)) → List Pair → List (Option (List Delivery)) → List ℕ → Type 0
Serves plan before past told spare = ServesIn (alone plan) before past told spare

-- no terminal with an object took more blocks than there is room for
abbrev pub AreFew : Setting → List Pair → Type 0
AreFew w past = (p : ℕ) (s : StationData) → slice_get w.served p ≡ Some s → length (deliveries_in w s past) ≤ most_deliveries w.plan

-- ---- one delivery

-- the object at the place, if there is one, took the delivery, and the others stay as they are; what they told and their room before and after
pub record IsHandedOn (object : Option ℕ) (delivery : Delivery) (told told_after : List (Option (List Delivery))) (spare spare_after : List ℕ) : Type 0 where
  pub all : length told_after ≡ length told
  pub all_spare : length spare_after ≡ length spare
  pub others : (k : ℕ) → object ≢ Some k → slice_get told_after k ≡ slice_get told k
  pub others_spare : (k : ℕ) → object ≢ Some k → slice_get spare_after k ≡ slice_get spare k
  pub takes : (p : ℕ) (old now : Option (List Delivery)) → object ≡ Some p → slice_get told p ≡ Some old → slice_get told_after p ≡ Some now →
      Takes old now delivery
  pub room : (p n m : ℕ) → object ≡ Some p → slice_get spare p ≡ Some n → slice_get spare_after p ≡ Some m → n ≤ m + 1

-- the object at the place took the delivery, if there was one, and else all stay as they are
abbrev pub AreHandedOut : Option ℕ → Option Delivery → List (Option (List Delivery)) → List (Option (List Delivery)) → List ℕ → List ℕ → Type 0
AreHandedOut object None told told_after spare spare_after = (told_after ≡ told) × (spare_after ≡ spare)
AreHandedOut object (Some delivery) told told_after spare spare_after = IsHandedOn object delivery told told_after spare spare_after
