use Rattle.bus_law_plans.proofs.Ranged.{answer-ranged, second-ranged}
use Rattle.bus_law_plans.proofs.memories.answers_keep_word_ranges.Goals as goal

pub returns : goal.returns
returns _ = record { first = answer-ranged; second = second-ranged }
