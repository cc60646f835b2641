use Rattle.bus_law_ticks.proofs.Counting.{counts-is, silence-is, awaited-is, running-is}
use Rattle.bus_law_ticks.proofs.replies.an_answer_counts_within_24_dead_ticks.Goals as goal

pub returns : goal.returns
returns c = record { counts = counts-is; silence = silence-is; awaited = awaited-is; running = running-is }
