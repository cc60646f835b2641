use Rattle.bus_law_offers.proofs.OfferTold.{message-told}
use Rattle.bus_law_offers.proofs.offers.a_message_that_is_not_abandoned_is_told.Goals as goal

pub returns : goal.returns
returns _ = message-told
