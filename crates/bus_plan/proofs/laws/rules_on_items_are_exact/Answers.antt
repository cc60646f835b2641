use Rattle.bus_plan.proofs.ExactItems.{station-exact, own-exact, form-exact, abandon-exact, frames-exact}
use Rattle.bus_plan.proofs.laws.rules_on_items_are_exact.Goals as goal

pub returns-clause-no_such_station : goal.returns-clause-no_such_station
returns-clause-no_such_station c p = station-exact p

pub returns-clause-self_addressed : goal.returns-clause-self_addressed
returns-clause-self_addressed c p = own-exact p

pub returns-clause-bad_form : goal.returns-clause-bad_form
returns-clause-bad_form c p = form-exact p

pub returns-clause-bad_abandon : goal.returns-clause-bad_abandon
returns-clause-bad_abandon c p = abandon-exact p

pub returns-clause-frames : goal.returns-clause-frames
returns-clause-frames c p = frames-exact p
