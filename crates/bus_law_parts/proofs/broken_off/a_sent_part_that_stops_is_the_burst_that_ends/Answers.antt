use Rattle.bus_law_parts.proofs.SentBursts.{endless-stopped, ended-stopped, end-stopped, rests-stopped}
use Rattle.bus_law_parts.proofs.broken_off.a_sent_part_that_stops_is_the_burst_that_ends.Goals as goal

pub returns : goal.returns
returns c = record { endless = endless-stopped; ended = ended-stopped; end = end-stopped; rests = rests-stopped }
