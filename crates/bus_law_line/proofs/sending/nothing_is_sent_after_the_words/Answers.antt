use Rattle.bus_law_line.proofs.Sent.{drives-nothing}
use Rattle.bus_law_line.proofs.sending.nothing_is_sent_after_the_words.Goals as goal

pub returns : goal.returns
returns c = drives-nothing
