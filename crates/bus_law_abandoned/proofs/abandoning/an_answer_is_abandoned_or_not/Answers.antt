use Rattle.bus_law_abandoned.proofs.Either.{abandoned-or-not}
use Rattle.bus_law_abandoned.proofs.abandoning.an_answer_is_abandoned_or_not.Goals as goal

pub returns : goal.returns
returns c = abandoned-or-not
