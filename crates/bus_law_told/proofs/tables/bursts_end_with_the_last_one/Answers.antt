use Rattle.bus_law_told.proofs.TablesQuiet.{quiet-one, quiet-more, quiet-both}
use Rattle.bus_law_told.proofs.tables.bursts_end_with_the_last_one.Goals as goal

pub returns-clause-one : goal.returns-clause-one
returns-clause-one c = quiet-one

pub returns-clause-more : goal.returns-clause-more
returns-clause-more c = quiet-more

pub returns-clause-both : goal.returns-clause-both
returns-clause-both c = quiet-both
