use Rattle.bus_law_stations.proofs.RunningOut.{promise-out}
use Rattle.bus_law_stations.proofs.silence.a_promise_runs_out_in_silence.Goals as goal

pub returns : goal.returns
returns _ = promise-out
