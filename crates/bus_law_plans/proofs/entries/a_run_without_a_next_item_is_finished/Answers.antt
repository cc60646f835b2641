use Rattle.bus_law_plans.proofs.Places.{finished}
use Rattle.bus_law_plans.proofs.entries.a_run_without_a_next_item_is_finished.Goals as goal

pub returns : goal.returns
returns _ = λ plan own run is. finished plan run is
