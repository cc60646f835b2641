use Rattle.bus_law_whole.proofs.EachStands.{stands-each}
use Rattle.bus_law_whole.proofs.MessagesTold.{messages-told}
use Rattle.bus_law_whole.proofs.runs.each_run_stands_after_each_attempt.Goals as goal

pub returns : goal.returns
returns _ = λ w n is present. stands-each w is (messages-told w is.bus) present n
