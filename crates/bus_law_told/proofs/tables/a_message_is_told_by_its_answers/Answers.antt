use Rattle.bus_law_told.proofs.TablesTold.{told-by-answers}
use Rattle.bus_law_told.proofs.tables.a_message_is_told_by_its_answers.Goals as goal

pub returns : goal.returns
returns _ = told-by-answers
