use Rattle.bus_law_parts.proofs.Counting.{count-command, count-answer, count-without}
use Rattle.bus_law_parts.proofs.leaving.commands_are_counted.Goals as goal

pub returns : goal.returns
returns c = record { command = count-command; answer = count-answer; others = count-without }
