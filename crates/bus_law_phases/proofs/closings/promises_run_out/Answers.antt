use Rattle.bus_law_phases.proofs.SilencedPromises.{promises-over}
use Rattle.bus_law_phases.proofs.closings.promises_run_out.Goals as goal

pub returns : goal.returns
returns _ w t place holder burst e part afters moment at none waits stays goes =
    promises-over w t place holder burst e part afters moment at none waits stays goes
