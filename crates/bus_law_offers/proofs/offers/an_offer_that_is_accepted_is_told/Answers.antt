use Rattle.bus_law_offers.proofs.OfferTold.{offer-accepted}
use Rattle.bus_law_offers.proofs.offers.an_offer_that_is_accepted_is_told.Goals as goal

pub returns : goal.returns
returns _ = offer-accepted
