use Rattle.bus_law_duties.proofs.Offered.{offer-is-read}
use Rattle.bus_law_duties.proofs.offers.an_offer_is_read_as_it_was_meant.Goals as goal

pub returns : goal.returns
returns c = offer-is-read
