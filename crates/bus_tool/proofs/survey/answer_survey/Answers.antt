use Rattle.std.proofs.Common.{refl, arith}
use Rattle.bus_tool.proofs.Surveying.{wants-plan, surveys-input}
use Rattle.bus_tool.proofs.survey.answer_survey.Goals as goal

pub returns-in-Err-Memory : goal.returns-in-Err-Memory
returns-in-Err-Memory g c = wants-plan _ _ _ _ c.args.input.now refl (omega arith)

pub returns-in-Ok : goal.returns-in-Ok
returns-in-Ok g c =
    surveys-input _ _ _ _ c.args.input.now c.in-Ok.plan c.survey.result c.status_after.result c.if-input-gt-LIMIT.false c.in-Ok.ensures.ok
    c.in-Ok.ensures.accepted c.survey.ensures.surveys c.survey.ensures.cause c.status_after.ensures
