use Rattle.bus_bench.proofs.Places.{no-places}
use Rattle.bus_bench.proofs.runs.run_bench.Goals as goal

pub run_without_subsystems-requires-clause-none : goal.run_without_subsystems-requires-clause-none
run_without_subsystems-requires-clause-none c = no-places _ c.args.number c.args.items c.in_ok-plan.ensures.plan
