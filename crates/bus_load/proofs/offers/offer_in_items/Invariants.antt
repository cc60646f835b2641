use Rattle.std.proofs.Common.{◌≡◌, suc, drop}
use Rattle.bus_load.specs.Load.{offer_in_items}
use Rattle.bus_load.proofs.offers.offer_in_items.Given as goal

abbrev pub invariant-loop-item : goal.invariant-loop-item
invariant-loop-item l = (l.place ≡ l.item-index)
    × (offer_in_items l.station l.frame (suc l.place) (drop l.item-index l.items) ≡ offer_in_items l.station l.frame 1 l.items)
