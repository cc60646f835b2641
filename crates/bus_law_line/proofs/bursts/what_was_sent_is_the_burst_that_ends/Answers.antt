use Rattle.bus_law_line.proofs.WordSlots.{sent-ended, sent-end, unstruck}
use Rattle.bus_law_line.proofs.bursts.what_was_sent_is_the_burst_that_ends.Goals as goal

pub returns : goal.returns
returns c = record { ended = sent-ended; end = sent-end; unstruck = unstruck }
