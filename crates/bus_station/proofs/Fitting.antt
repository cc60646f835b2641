-- The stations of an accepted plan have what a station rests on.
use Rattle.std.proofs.Common.{◌*◌, All, arith}
use Rattle.std.proofs.lemmas.List.Sums.{get_or-le-sum_by}
use Rattle.bus_formats.specs.Plans.{StationData, PlanData}
use Rattle.bus_formats.specs.Accepted.{IsAccepted, items_in}
use Rattle.bus_station.specs.Fits.{StationFits}

-- by the ranges and limits of an accepted plan
pub stations-fit : (plan : PlanData) → IsAccepted plan → All StationFits plan.stations
stations-fit plan accepted i d within =
    let few = get_or-le-sum_by (λ (s : StationData). s.repeat * items_in s) plan.stations i d within in
    record {
      ranges = accepted.ranges i d within;
      frames = accepted.limits.frames i d within;
      items = omega (arith, few, accepted.limits.repeated_items);
    }
