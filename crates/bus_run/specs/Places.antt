-- Where the object of a station stands among those that are handed in.
use Rattle.std.specs.Prelude.{◌≡◌, ℕ, Option, Some}
use Rattle.bus_formats.specs.Plans.{StationData}
use Rattle.bus_formats.specs.declared.plan.SubsystemKind.{SubsystemKind}
use Rattle.bus_run.specs.Kept.{place_of}

-- the place is that of the kind that the station names, and of its address
pub record IsPlaceOf (station : StationData) (place : Option ℕ) : Type 0 where
  pub kind : SubsystemKind
  pub names : station.terminal.subsystem ≡ Some kind
  pub at : place ≡ Some (place_of kind station.terminal.address)
