use Rattle.std.proofs.Common.{◌∙◌}
use Rattle.bus_survey.proofs.AloneLaws.{same-places}
use Rattle.bus_survey.proofs.alone.run_with.Goals as goal

pub run_without_subsystems-requires-clause-none : goal.run_without_subsystems-requires-clause-none
run_without_subsystems-requires-clause-none c = rw c.in_ok-set_fault.ensures (same-places c.args.plan.now c.args.fault ∙ c.requires.none)
