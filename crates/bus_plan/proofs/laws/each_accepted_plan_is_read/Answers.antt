use Rattle.bus_plan.proofs.DescribedPlans.{read-described}
use Rattle.bus_plan.proofs.DescribedTexts.{read-text}
use Rattle.bus_plan.proofs.laws.each_accepted_plan_is_read.Goals as goal

pub returns-clause-document : goal.returns-clause-document
returns-clause-document c p accepted = read-described p accepted

pub returns-clause-text : goal.returns-clause-text
returns-clause-text c p pretty text accepted utf8 writes = read-text p pretty text accepted utf8 writes
