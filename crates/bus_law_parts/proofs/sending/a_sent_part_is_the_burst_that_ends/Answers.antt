use Rattle.bus_law_parts.proofs.SentBursts.{endless-sent, ended-sent, end-sent, rests-sent}
use Rattle.bus_law_parts.proofs.sending.a_sent_part_is_the_burst_that_ends.Goals as goal

pub returns : goal.returns
returns c = record { endless = endless-sent; ended = ended-sent; end = end-sent; rests = rests-sent }
