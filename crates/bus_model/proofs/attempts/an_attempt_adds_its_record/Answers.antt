use Rattle.bus_model.proofs.OneAttempt.{attempt-adds}
use Rattle.bus_model.proofs.attempts.an_attempt_adds_its_record.Goals as goal

pub returns : goal.returns
returns c = attempt-adds
