use Rattle.bus_plan.specs.PlanOf.{head_of}
use Rattle.bus_plan.proofs.AcceptedLaws.{controllers_hold}
use Rattle.bus_plan.proofs.StationLaws.{stations_ranged, faults_ranged}
use Rattle.bus_plan.proofs.laws.what_a_document_describes_has_its_ranges.Goals as goal

pub returns-clause-ranges : goal.returns-clause-ranges
returns-clause-ranges c doc = stations_ranged (head_of doc) doc

pub returns-clause-hits : goal.returns-clause-hits
returns-clause-hits c doc = faults_ranged (head_of doc) doc

pub returns-clause-controllers : goal.returns-clause-controllers
returns-clause-controllers c doc = controllers_hold doc
