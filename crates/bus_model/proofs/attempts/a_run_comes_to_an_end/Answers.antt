use Rattle.bus_model.proofs.RunEnds.{run-ends, run-few, ends-from}
use Rattle.bus_model.proofs.attempts.a_run_comes_to_an_end.Goals as goal

pub returns : goal.returns
returns c = record { ends = run-ends; few = run-few; from = ends-from }
