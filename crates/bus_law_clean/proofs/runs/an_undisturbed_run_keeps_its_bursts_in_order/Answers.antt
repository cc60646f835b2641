use Rattle.bus_law_clean.proofs.RunInOrder.{each-in-order, run-in-order}
use Rattle.bus_law_clean.proofs.runs.an_undisturbed_run_keeps_its_bursts_in_order.Goals as goal

pub returns : goal.returns
returns _ = record {
  each = λ k plan loads n low accepted undisturbed. each-in-order k low plan accepted undisturbed loads n;
  whole = λ k plan loads low accepted undisturbed. run-in-order k low plan accepted undisturbed loads;
}
