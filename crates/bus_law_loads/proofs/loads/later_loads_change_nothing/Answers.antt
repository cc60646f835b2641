use Rattle.bus_law_loads.proofs.Worlds.{trace-late, attempts-late, over-late}
use Rattle.bus_law_loads.proofs.loads.later_loads_change_nothing.Goals as goal

pub returns-clause-trace : goal.returns-clause-trace
returns-clause-trace c = λ k plan loads later outside absent t n from early. trace-late k plan loads later outside absent t from n early

pub returns-clause-attempts : goal.returns-clause-attempts
returns-clause-attempts c = λ k plan loads later outside absent t past from early. attempts-late k plan loads later outside absent t from past early

pub returns-clause-over : goal.returns-clause-over
returns-clause-over c = λ k plan loads later outside absent t n from early. over-late k plan loads later outside absent t from n early
