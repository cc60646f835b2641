use Rattle.bus_law_listing.proofs.Found.{found-splits, found-joined, found-same}
use Rattle.bus_law_listing.proofs.listing.bursts_are_listed_in_order.Goals as goal

pub returns : goal.returns
returns c = record { splits = found-splits; joins = found-joined; stays = found-same }
