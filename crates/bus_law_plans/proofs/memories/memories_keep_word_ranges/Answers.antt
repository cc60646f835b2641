use Rattle.bus_law_plans.proofs.EachRun.{each-ranged}
use Rattle.bus_law_plans.proofs.Ranged.{first-keeps, attempt-ranges}
use Rattle.bus_law_plans.proofs.memories.memories_keep_word_ranges.Goals as goal

pub returns : goal.returns
returns _ = record { first = first-keeps; next = λ k plan loads own run blocks is. attempt-ranges k plan loads run blocks is; each = each-ranged }
