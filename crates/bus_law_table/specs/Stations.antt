-- The stations of the message table beside those of the world. The table adds blocks that were put up for sending only where a terminal obeys; so
-- its stations are those of the world once the blocks of all ticks before are added.
use Rattle.std.specs.Prelude.{◌≡◌, ◌≢◌, ℕ, Bool, List, map, length, slice_get, Some}
use Rattle.bus_base.specs.declared.samples.Pair.{Pair}
use Rattle.bus_formats.specs.Plans.{StationData, PlanData}
use Rattle.bus_model.specs.Memory.{TimedLoad, with_loads}
use Rattle.bus_model.specs.Message.{Present, Message, address_of_station}
use Rattle.bus_model.specs.Control.{OutsideTake, unheard_ticks, hearing_after}
use Rattle.bus_model.specs.WorldLog.{presents}
use Rattle.bus_retry.specs.Retries.{next_of}
use Rattle.bus_model.specs.Attempts.{Begun}
use Rattle.bus_model.specs.Run.{with_station, after_attempt}

-- a station with the blocks that were put up for sending before a tick
abbrev pub loaded_at : List TimedLoad → ℕ → Present → Present
loaded_at loads tick station = record station { memory = with_loads (address_of_station station) tick loads station.memory }

-- these are the stations that are present, after what the channels showed
abbrev pub ArePresent : ℕ → PlanData → List TimedLoad → List OutsideTake → List ℕ → List Pair → List Present → Type 0
ArePresent k plan loads outside absent past stations =
    presents k plan loads outside absent past ≡ map (loaded_at loads (length past)) stations

-- no other station has the address of this one
abbrev pub IsNamedApart : PlanData → ℕ → StationData → Type 0
IsNamedApart plan place holder =
    (other : ℕ) (station : StationData) → slice_get plan.stations other ≡ Some station → other ≢ place →
    station.terminal.address ≢ holder.terminal.address

-- the terminal of a station in control heard nothing since it took control, or ever
abbrev pub HeardNothing : ℕ → StationData → Bool → List TimedLoad → List OutsideTake → List Pair → Type 0
HeardNothing k station starts loads outside past = (hearing_after k station starts loads outside past).ticks ≡ unheard_ticks past

-- the stations after an attempt of the one in control, where they are these after its message
abbrev pub after_message : StationData → Begun → Message → List Present
after_message holder begun m =
    with_station holder.terminal.address
    (after_attempt begun m.ending.ended.outcome (next_of begun.entry.item begun.state m.ending.ended.outcome)) m.stations
