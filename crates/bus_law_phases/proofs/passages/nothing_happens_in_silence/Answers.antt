use Rattle.bus_law_phases.proofs.Silence.{silence}
use Rattle.bus_law_phases.proofs.passages.nothing_happens_in_silence.Goals as goal

pub returns : goal.returns
returns c = silence
