use Rattle.bus_law_offers.proofs.DoubtCommand.{began-in-doubt}
use Rattle.bus_law_offers.proofs.doubts.a_message_begins_in_doubt.Goals as goal

pub returns : goal.returns
returns c = began-in-doubt
