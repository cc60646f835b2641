use Rattle.bus_law_whole.proofs.EachStands.{stands-after, rests-at-end}
use Rattle.bus_law_whole.proofs.MessagesTold.{messages-told}
use Rattle.bus_law_whole.proofs.runs.a_run_by_the_stations_present_goes_on.Goals as goal

pub returns : goal.returns
returns _ = record { stands = λ w t run n is. stands-after w is (messages-told w is) t run n; over = rests-at-end }
