use Rattle.bus_law_control.proofs.Doubting.{doubt-begins, doubts-later, station-doubts}
use Rattle.bus_law_control.proofs.doubts.an_offerer_doubts.Goals as goal

pub returns : goal.returns
returns _ = record { begins = doubt-begins; stays = doubts-later; seen = station-doubts }
