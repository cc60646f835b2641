use Rattle.bus_law_line.proofs.WordSlots.{leg-sent, endless}
use Rattle.bus_law_line.proofs.bursts.words_are_sent_without_an_end.Goals as goal

pub returns : goal.returns
returns c = record { leg = leg-sent; endless = endless }
