use Rattle.std.proofs.Common.{◌≡◌, suc, drop}
use Rattle.bus_load.specs.Load.{offer_from}
use Rattle.bus_load.proofs.offers.first_offer.Given as goal

abbrev pub invariant-loop-station : goal.invariant-loop-station
invariant-loop-station l = (l.number ≡ l.station-index)
    × (offer_from l.plan.start (suc l.number) (drop l.station-index l.plan.stations) ≡ offer_from l.plan.start 1 l.plan.stations)
