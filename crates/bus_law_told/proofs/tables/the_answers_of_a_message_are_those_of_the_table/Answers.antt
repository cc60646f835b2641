use Rattle.bus_law_told.proofs.TablesShown.{stations-ranged, first-shown-to, second-shown-to, silent-or-mute}
use Rattle.bus_law_told.proofs.tables.the_answers_of_a_message_are_those_of_the_table.Goals as goal

pub returns-clause-ranged : goal.returns-clause-ranged
returns-clause-ranged _ = stations-ranged

pub returns-clause-first : goal.returns-clause-first
returns-clause-first _ = first-shown-to

pub returns-clause-second : goal.returns-clause-second
returns-clause-second _ = second-shown-to

pub returns-clause-silent : goal.returns-clause-silent
returns-clause-silent _ = silent-or-mute
