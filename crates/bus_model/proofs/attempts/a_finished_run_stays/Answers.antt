use Rattle.bus_model.proofs.OneAttempt.{attempts-none}
use Rattle.bus_model.proofs.attempts.a_finished_run_stays.Goals as goal

pub returns : goal.returns
returns c = attempts-none
