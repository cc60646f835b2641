use Rattle.bus_law_judge.proofs.Judged.{judged-clean}
use Rattle.bus_law_judge.proofs.judging.bursts_in_order_are_judged_clean.Goals as goal

pub returns : goal.returns
returns c = judged-clean
