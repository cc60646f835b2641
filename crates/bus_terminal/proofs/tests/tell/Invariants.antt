use Rattle.bus_terminal.specs.Heard.{HasHeard}
use Rattle.bus_terminal.proofs.tests.tell.Given as goal

-- it heard the ticks so far
abbrev pub invariant-loop-now : goal.invariant-loop-now
invariant-loop-now l = HasHeard l.terminal l.now
