use Rattle.bus_law_phases.proofs.Lasting.{lasting}
use Rattle.bus_law_phases.proofs.moments.a_moment_lasts_in_silence.Goals as goal

pub returns : goal.returns
returns c = lasting
