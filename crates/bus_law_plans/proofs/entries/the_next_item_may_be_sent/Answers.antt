use Rattle.bus_law_plans.proofs.Nexts.{next-of}
use Rattle.bus_law_plans.proofs.entries.the_next_item_may_be_sent.Goals as goal

pub returns : goal.returns
returns _ = λ plan own run next is. next-of plan run next is
