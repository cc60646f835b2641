-- What the stations that are called drive, where all others are silent.
use Rattle.std.specs.Prelude.{◌≡◌, ℕ, Bool, true, false, List, length, slice_get, Some}
use Rattle.bus_base.specs.declared.samples.Drive.{Drive}
use Rattle.bus_base.specs.declared.samples.Drive.TheVariants.{Silent, On}
use Rattle.bus_base.specs.declared.samples.Pair.{Pair}
use Rattle.bus_line.specs.declared.cutter.TheConstants.{LAG}
use Rattle.bus_formats.specs.Plans.{StationData}
use Rattle.bus_model.specs.Memory.{TimedLoad}
use Rattle.bus_model.specs.Control.{OutsideTake, drives_next}
use Rattle.bus_station.specs.StationStands.{StationKeeps}
use Rattle.bus_station.specs.declared.station.Station.{Station}
use Rattle.bus_wire.specs.Places.{AreRising, is_among}

-- a station drives this in the tick to come, whatever it stands for
abbrev pub IsDriveOf : Station → Drive → Type 0
IsDriveOf value drive =
    (station : StationData) (starts : Bool) (loads : List TimedLoad) (outside : List OutsideTake) (past : List Pair) →
    StationKeeps LAG station starts loads outside value past → drive ≡ drives_next LAG station starts loads outside past

-- all stations but those at these places are silent
abbrev pub AreSilentBut : List ℕ → List Drive → Type 0
AreSilentBut places drives = (i : ℕ) (drive : Drive) → slice_get drives i ≡ Some drive → is_among i places ≡ false → drive ≡ Silent

-- and those drive what they do
pub record AreDriven (stations : List Station) (places : List ℕ) (drives : List Drive) : Type 0 where
  pub all : length drives ≡ length stations
  pub each : (i : ℕ) (drive : Drive) (value : Station) → slice_get drives i ≡ Some drive → slice_get stations i ≡ Some value →
      is_among i places ≡ true → IsDriveOf value drive
  pub others : AreSilentBut places drives

-- a station drives a channel
abbrev pub is_on : Drive → Bool
is_on Silent = false
is_on (On channel sample part last) = true

-- these places below one rise, and at all others nothing is driven
pub record AreDriving (end : ℕ) (drives : List Drive) (places : List ℕ) : Type 0 where
  pub rising : AreRising 0 end places
  pub others : AreSilentBut places drives
