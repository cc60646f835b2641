use Rattle.bus_law_run.proofs.LogFound.{log-found}
use Rattle.bus_law_run.proofs.rests.the_log_of_a_run_at_rest_is_found.Goals as goal

pub returns : goal.returns
returns _ = λ w run whole. log-found w whole run
