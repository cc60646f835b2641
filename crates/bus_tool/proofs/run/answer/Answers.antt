use Rattle.bus_tool.proofs.Answering.{answers-input, wants-at-once}
use Rattle.bus_tool.proofs.run.answer.Goals as goal

pub returns-in-Err-Memory : goal.returns-in-Err-Memory
returns-in-Err-Memory g c = wants-at-once _ _ _ _ _ c.args.text c.args.input.now

pub returns-in-Ok : goal.returns-in-Ok
returns-in-Ok g c =
    answers-input _ _ _ _ _ _ _ _ _ _ _ _ c.args.text c.in-Ok.plan c.args.input.now c.if-input-gt-LIMIT.false c.in-Ok.ensures.ok c.in-Ok.ensures.accepted c.run_plan.ensures
