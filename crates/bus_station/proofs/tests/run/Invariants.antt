use Rattle.bus_station.specs.Heard.{HasHeard}
use Rattle.bus_station.proofs.tests.run.Given as goal

-- both heard the ticks so far
abbrev pub invariant-loop-now : goal.invariant-loop-now
invariant-loop-now l = record { first : HasHeard l.first l.now; second : HasHeard l.second l.now }
