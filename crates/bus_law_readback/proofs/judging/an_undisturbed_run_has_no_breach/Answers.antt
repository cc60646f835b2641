use Rattle.bus_law_readback.proofs.JudgedClean.{world-clean}
use Rattle.bus_law_readback.proofs.judging.an_undisturbed_run_has_no_breach.Goals as goal

pub returns : goal.returns
returns _ = world-clean
