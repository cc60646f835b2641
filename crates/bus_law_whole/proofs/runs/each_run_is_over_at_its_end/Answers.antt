use Rattle.std.proofs.Common.{arith}
use Rattle.bus_law_run.specs.WholeRun.{run_in}
use Rattle.bus_law_run.proofs.LogFound.{log-found}
use Rattle.bus_law_whole.proofs.EachStands.{at-end, over-at-end}
use Rattle.bus_law_whole.proofs.MessagesTold.{messages-told}
use Rattle.bus_law_whole.proofs.runs.each_run_is_over_at_its_end.Goals as goal

pub returns-clause-rests : goal.returns-clause-rests
returns-clause-rests c = λ w is present. at-end w is (messages-told w is.bus) present (c.a_run_comes_to_an_end.ensures.ends w.lag w.loads w.plan)

pub returns-clause-over : goal.returns-clause-over
returns-clause-over c = λ w is present. over-at-end w is (messages-told w is.bus) present (c.a_run_comes_to_an_end.ensures.ends w.lag w.loads w.plan)

pub returns-clause-log : goal.returns-clause-log
returns-clause-log c = λ w is present.
    let lag = is.bus.lag in log-found w is.whole (run_in w) (omega (arith, lag))
    (at-end w is (messages-told w is.bus) present (c.a_run_comes_to_an_end.ensures.ends w.lag w.loads w.plan))
