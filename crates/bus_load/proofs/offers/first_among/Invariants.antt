use Rattle.std.proofs.Common.{◌≡◌, suc, drop}
use Rattle.bus_load.specs.Offers.{offer_among}
use Rattle.bus_load.proofs.offers.first_among.Given as goal

abbrev pub invariant-loop-station : goal.invariant-loop-station
invariant-loop-station l = (l.number ≡ l.station-index)
    × (offer_among (suc l.number) (drop l.station-index l.plan.stations) ≡ offer_among 1 l.plan.stations)
