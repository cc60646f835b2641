use Rattle.bus_law_control.proofs.Answered.{kept-never, kept-early}
use Rattle.bus_law_control.proofs.abandoning.a_message_is_not_abandoned_before_its_tick.Goals as goal

pub returns : goal.returns
returns _ = record { never = kept-never; early = kept-early }
