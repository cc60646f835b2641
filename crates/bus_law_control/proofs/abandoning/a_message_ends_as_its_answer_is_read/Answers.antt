use Rattle.bus_law_control.proofs.Starting.{reads-well, reads-plain}
use Rattle.bus_law_control.proofs.abandoning.a_message_ends_as_its_answer_is_read.Goals as goal

pub returns : goal.returns
returns _ = record { well = reads-well; plain = reads-plain }
