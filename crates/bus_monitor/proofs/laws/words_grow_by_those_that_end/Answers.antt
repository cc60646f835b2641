use Rattle.bus_monitor.proofs.LineLaws.{heard-valid, words-grow}
use Rattle.bus_monitor.proofs.laws.words_grow_by_those_that_end.Goals as goal

pub returns-clause-words : goal.returns-clause-words
returns-clause-words c k past = heard-valid k past

pub returns-clause-lines : goal.returns-clause-lines
returns-clause-lines c k shown past = words-grow k shown past
