use Rattle.bus_law_ticks.proofs.Marks.{heeded-is}
use Rattle.bus_law_ticks.proofs.heeding.a_channel_is_heeded_where_no_answer_runs.Goals as goal

pub returns : goal.returns
returns c = λ k terminal loads hearing channel. heeded-is k terminal loads hearing.memory hearing.ticks channel
