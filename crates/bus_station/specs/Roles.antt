-- The role of a station.
use Rattle.std.specs.Prelude.{ℕ, Bool, true, false, nat_lt, if◌then◌else◌, List, Option, Some, None}
use Rattle.bus_base.specs.declared.samples.Pair.{Pair}
use Rattle.bus_base.specs.declared.samples.Tick.{Tick}
use Rattle.bus_formats.specs.Plans.{StationData}
use Rattle.bus_model.specs.Memory.{TimedLoad}
use Rattle.bus_model.specs.Control.{OutsideTake, holds_control, takes_control}
use Rattle.bus_station.specs.declared.role.Role.{Role}
use Rattle.bus_station.specs.declared.role.Role.TheVariants.{Controlling, Taking, Serving}

abbrev pub tick_of : Option ℕ → Option Tick
tick_of None = None
tick_of (Some tick) = Some record { 0 = tick }

abbrev pub role_by : Bool → Option ℕ → Role
role_by false first = Serving
role_by true None = Controlling
role_by true (Some first) = Taking record { 0 = first }

-- the tick of the first command after one tick more
abbrev pub still_taking : Option Tick → ℕ → Option Tick
still_taking None now = None
still_taking (Some first) now = if nat_lt now first.0 then Some first else None

-- it holds control, is taking it, or serves
abbrev pub role_after : ℕ → StationData → Bool → List TimedLoad → List OutsideTake → List Pair → Role
role_after k station starts loads outside past =
    role_by (holds_control k station starts loads outside past) (takes_control k station starts loads outside past)
