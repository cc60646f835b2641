use Rattle.bus_law_plans.proofs.AllDelivered.{all-delivered}
use Rattle.bus_law_plans.proofs.Delivered.{delivers-whole}
use Rattle.bus_law_plans.proofs.deliveries.deliveries_are_sent_blocks.Goals as goal

pub returns : goal.returns
returns _ = record { next = delivers-whole; each = all-delivered }
