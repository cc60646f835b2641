use Rattle.bus_law_plans.proofs.EachRun.{each-of-plan}
use Rattle.bus_law_plans.proofs.FirstRun.{first-run}
use Rattle.bus_law_plans.proofs.NextRun.{attempt-run, attempt-among}
use Rattle.bus_law_plans.proofs.Stations.{apart-from}
use Rattle.bus_law_plans.proofs.entries.entries_are_of_the_plan.Goals as goal

pub returns : goal.returns
returns _ = record {
  first = first-run;
  next = attempt-run;
  each = each-of-plan;
  among = λ k plan loads own run named is. attempt-among k plan loads own run (apart-from _ named) is;
}
