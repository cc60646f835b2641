use Rattle.bus_station.specs.Heard.{HasHeard}
use Rattle.bus_station.proofs.tests.first_sent.Given as goal

-- it heard the ticks so far
abbrev pub invariant-loop-now : goal.invariant-loop-now
invariant-loop-now l = HasHeard l.station l.now
