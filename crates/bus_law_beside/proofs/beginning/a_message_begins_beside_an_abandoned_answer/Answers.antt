use Rattle.bus_law_beside.proofs.BesideBegan.{began-beside, began-valid}
use Rattle.bus_law_beside.proofs.BesideEither.{began-or-told}
use Rattle.bus_law_beside.proofs.TailTold.{told-struck}
use Rattle.bus_law_beside.proofs.beginning.a_message_begins_beside_an_abandoned_answer.Goals as goal

pub returns-clause-over : goal.returns-clause-over
returns-clause-over c = began-beside

pub returns-clause-valid : goal.returns-clause-valid
returns-clause-valid c = began-valid

pub returns-clause-struck : goal.returns-clause-struck
returns-clause-struck c = told-struck

pub returns-clause-either : goal.returns-clause-either
returns-clause-either c = began-or-told
