use Rattle.bus_law_clean.proofs.StationDue.{station-due}
use Rattle.bus_law_clean.proofs.reading.the_answer_to_a_whole_command_is_due.Goals as goal

pub returns : goal.returns
returns _ = λ k loads c start item station words acceptance low ranges. station-due k loads c start item station low ranges words acceptance
