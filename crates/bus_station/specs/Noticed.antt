-- What a station tells of a tick, where it keeps it for the call that asks.
use Rattle.std.specs.Prelude.{◌≡◌, ℕ, Bool, true, false, List}
use Rattle.bus_base.specs.declared.samples.Pair.{Pair}
use Rattle.bus_formats.specs.Plans.{StationData}
use Rattle.bus_model.specs.Memory.{TimedLoad}
use Rattle.bus_model.specs.Control.{OutsideTake}
use Rattle.bus_station.specs.Told.{attempts_told, delivery_told, ended_newest, delivered_newest}
use Rattle.bus_station.specs.declared.event.StationEvent.{StationEvent}
use Rattle.bus_station.specs.declared.event.StationEvent.TheVariants as events
use Rattle.bus_station.specs.declared.station.Station.{Station}

-- by whether there is something to tell
abbrev pub noticed : Bool → StationEvent → StationEvent
noticed false event = events.Nothing
noticed true event = event

-- whether it is something
abbrev pub is_event : StationEvent → Bool
is_event events.Nothing = false
is_event _ = true

-- what is told of the newest tick: the attempt that ended in it or the block that the terminal took in it, and nothing where neither was
pub record TellsNewest (k : ℕ) (station : StationData) (starts : Bool) (loads : List TimedLoad) (outside : List OutsideTake) (event : StationEvent)
    (past : List Pair) : Type 0 where
  pub ended : attempts_told event ≡ ended_newest k station starts loads outside past
  pub took : delivery_told event ≡ delivered_newest k station starts loads outside past

-- a station has that still to tell
abbrev pub KeepsNewest : ℕ → StationData → Bool → List TimedLoad → List OutsideTake → Station → List Pair → Type 0
KeepsNewest k station starts loads outside value past = TellsNewest k station starts loads outside value.event past

-- it has nothing left to tell
abbrev pub HasTold : Station → Type 0
HasTold value = value.event ≡ events.Nothing
