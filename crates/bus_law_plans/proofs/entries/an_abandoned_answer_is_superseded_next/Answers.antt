use Rattle.bus_law_plans.proofs.Superseded.{first-superseded, attempt-superseded, each-superseded}
use Rattle.bus_law_plans.proofs.entries.an_abandoned_answer_is_superseded_next.Goals as goal

pub returns : goal.returns
returns _ = record { first = first-superseded; next = λ k plan loads own run accepted is. attempt-superseded k plan loads run accepted is; each = each-superseded }
