-- Offers of control among the items of all stations.
use Rattle.std.specs.Prelude.{ℕ, suc, List, [], ◌∷◌, Option, None}
use Rattle.std.specs.Option.{option_or}
use Rattle.bus_formats.specs.Plans.{StationData, PlanData}
use Rattle.bus_load.specs.Load.{offer_in_frames}
use Rattle.bus_load.specs.declared.reckoned.OfferPlace.{OfferPlace}

-- the first one of these stations, which are counted from this number on
abbrev pub offer_among : ℕ → List StationData → Option OfferPlace
offer_among number [] = None
offer_among number (station ∷ later) = option_or (offer_in_frames number 1 station.frames) (offer_among (suc number) later)

-- .. of any station
abbrev pub any_offer : PlanData → Option OfferPlace
any_offer plan = offer_among 1 plan.stations
