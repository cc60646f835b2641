-- Which objects stay: of 31 recorders and 31 tallies those that the stations of a plan name, in order of address.
use Rattle.std.specs.Prelude.{◌≡◌, ℕ, suc, ◌+◌, ◌≤◌, ◌==◌, IfSome, if◌then◌else◌, List, [], ◌∷◌, map, take, count_by, Option, Some, None, is_some, slice_get}
use Rattle.std.specs.List.{AllZip, range_with_len}
use Rattle.bus_formats.specs.Plans.{StationData, PlanData}
use Rattle.bus_formats.specs.declared.plan.SubsystemKind.{SubsystemKind}
use Rattle.bus_formats.specs.declared.plan.SubsystemKind.TheVariants.{Recorder, Tally}

-- the subsystem that the first of these stations with this address names
abbrev pub named_at : ℕ → List StationData → Option SubsystemKind
named_at address [] = None
named_at address (s ∷ stations) = if s.terminal.address == address then s.terminal.subsystem else named_at address stations

-- by address, from 0 to 30
unfoldable pub named_in : List StationData → List (Option SubsystemKind)
named_in stations = map (λ address. named_at address stations) (range_with_len 0 31)

-- the place of the object of this kind and address
abbrev pub place_of : SubsystemKind → ℕ → ℕ
place_of Recorder address = address
place_of Tally address = 31 + address

-- the places of the objects that the addresses from this one on name
abbrev pub places_from : ℕ → List (Option SubsystemKind) → List ℕ
places_from address [] = []
places_from address (None ∷ rest) = places_from (suc address) rest
places_from address (Some kind ∷ rest) = place_of kind address ∷ places_from (suc address) rest

-- the places of the objects that the stations of a plan name
unfoldable pub places : PlanData → List ℕ
places plan = places_from 0 (named_in plan.stations)

-- how many of the addresses below this one name a subsystem
abbrev pub count_below : List (Option SubsystemKind) → ℕ → ℕ
count_below named address = count_by is_some (take address named)

-- the place of a station's object among those that stay, if it names a subsystem
abbrev pub object_at : List (Option SubsystemKind) → StationData → Option ℕ
object_at named s = if is_some s.terminal.subsystem then Some (count_below named s.terminal.address) else None

-- there is room for so many in what stands at the place, of the room at each
abbrev pub HasRoom : ℕ → List ℕ → ℕ → Type 0
HasRoom n spare place = IfSome (slice_get spare place) (λ m. n ≤ m)

-- what is left is what stood at these places, in order
abbrev pub IsPicked : {A : Type 0} → List A → List ℕ → List A → Type 0
IsPicked old places now = AllZip (λ place x. slice_get old place ≡ Some x) places now
