use Rattle.std.proofs.Common.{refl}
use Rattle.bus_line.specs.Channels.{valid}
use Rattle.bus_monitor.specs.Progress.{word_lines}
use Rattle.bus_monitor.proofs.words.list_words.Goals as goal

pub list-requires-clause-lines : goal.list-requires-clause-lines
unfolding word_lines valid
list-requires-clause-lines g c = refl
