use Rattle.bus_law_readback.proofs.CallsJoined.{joined}
use Rattle.bus_law_readback.proofs.commands.decode_lists_the_words_of_the_report.Goals as goal

pub returns : goal.returns
returns _ = joined
