use Rattle.bus_law_control.proofs.Starting.{superseding-begins}
use Rattle.bus_law_control.proofs.waiting.an_abandoned_message_is_superseded_at_once.Goals as goal

pub returns : goal.returns
returns _ = superseding-begins
