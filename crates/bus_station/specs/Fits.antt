-- The numbers of a plan that a station rests on.
use Rattle.std.specs.Prelude.{◌*◌, ◌≤◌, length}
use Rattle.bus_formats.specs.Plans.{StationData}
use Rattle.bus_formats.specs.Accepted.{HasStationRanges, items_in}

-- each station of an accepted plan has them
pub record StationFits (station : StationData) : Type 0 where
  pub ranges : HasStationRanges station
  pub frames : length station.frames ≤ 1024
  pub items : station.repeat * items_in station ≤ 16384
