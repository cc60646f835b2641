-- The newest tick in which a channel was driven: it says of every tick whether the channel was driven from it on.
use Rattle.std.specs.Prelude.{ℕ, Bool, false, nat_le, if◌then◌else◌, List, [], ◌∷◌, length, Option, Some, None}
use Rattle.std.specs.List.{list_any}
use Rattle.bus_base.specs.declared.samples.Channel.{Channel}
use Rattle.bus_base.specs.declared.samples.Drive.{Drive}
use Rattle.bus_model.specs.Transmissions.{drives_on, station_drive}

-- whether a station drives the channel, and whether any does
abbrev pub by_station : ℕ → Channel → List Drive → Bool
by_station station c now = drives_on c (station_drive station now)

abbrev pub by_any : Channel → List Drive → Bool
by_any c now = list_any (drives_on c) now

abbrev pub tick_or : Bool → ℕ → Option ℕ → Option ℕ
tick_or now tick earlier = if now then Some tick else earlier

-- the newest tick that passes a test
unfoldable pub newest : (List Drive → Bool) → List (List Drive) → Option ℕ
newest test [] = None
newest test (now ∷ before) = tick_or (test now) (length before) (newest test before)

-- a tick is known that is this one or a later one
abbrev pub since : Option ℕ → ℕ → Bool
since None from = false
since (Some tick) from = nat_le from tick
