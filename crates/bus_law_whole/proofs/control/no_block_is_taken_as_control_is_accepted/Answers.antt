use Rattle.bus_law_whole.proofs.AcceptsAlone.{accepts-alone}
use Rattle.bus_law_whole.proofs.control.no_block_is_taken_as_control_is_accepted.Goals as goal

pub returns : goal.returns
returns _ = λ k terminal loads memory now past end small later. accepts-alone k terminal loads memory small later now past end
