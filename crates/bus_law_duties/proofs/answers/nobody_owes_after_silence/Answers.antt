use Rattle.bus_law_duties.proofs.Answering.{all-silent}
use Rattle.bus_law_duties.proofs.answers.nobody_owes_after_silence.Goals as goal

pub returns : goal.returns
returns c = all-silent
