use Rattle.bus_law_told.proofs.TablesDue.{first-due, second-due, shown-to, loads-fit}
use Rattle.bus_law_told.proofs.tables.what_an_answer_of_the_table_is.Goals as goal

pub returns-clause-first : goal.returns-clause-first
returns-clause-first _ k loads channel start hits item stations answer ranges fit each =
    first-due k loads channel start hits item ranges fit stations each answer

pub returns-clause-second : goal.returns-clause-second
returns-clause-second _ k loads channel start hits item stations burst answer ranges each =
    second-due k loads channel start hits item ranges burst stations each answer

pub returns-clause-shown : goal.returns-clause-shown
returns-clause-shown _ = shown-to

pub returns-clause-loads : goal.returns-clause-loads
returns-clause-loads _ = loads-fit
