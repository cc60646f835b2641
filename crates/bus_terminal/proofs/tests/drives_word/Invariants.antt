use Rattle.std.proofs.Common.{◌+◌}
use Rattle.bus_terminal.specs.Heard.{HasHeard}
use Rattle.bus_terminal.proofs.tests.drives_word.Given as goal

-- it heard the ticks before the first, and those so far
abbrev pub invariant-loop-place : goal.invariant-loop-place
invariant-loop-place l = HasHeard l.terminal (l.first + l.place)
