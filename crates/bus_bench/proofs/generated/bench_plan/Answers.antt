use Rattle.bus_bench.proofs.Drawn.{plan-drawn, drawn-accepted}
use Rattle.bus_bench.proofs.generated.bench_plan.Goals as goal

pub returns-clause-plan : goal.returns-clause-plan
returns-clause-plan c = plan-drawn c.plan_with.result _ c.args.number c.args.items c.in_ok-drawn.ensures c.plan_with.ensures

pub returns-clause-accepted : goal.returns-clause-accepted
returns-clause-accepted c =
    drawn-accepted c.plan_with.result _ c.args.number c.args.items c.in_ok-drawn.ensures c.plan_with.ensures c.requires.items
