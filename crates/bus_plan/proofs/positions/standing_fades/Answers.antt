use Rattle.bus_plan.proofs.Flips.{taken_fades, fade_not_refused}
use Rattle.bus_plan.proofs.positions.standing_fades.Goals as goal

pub returns-in-Ok : goal.returns-in-Ok
returns-in-Ok c = taken_fades c.args.positions.now c.in-Ok.set c.requires c.in-Ok.ensures

pub returns-in-Err : goal.returns-in-Err
returns-in-Err c = absurd (fade_not_refused c.args.positions.now c.in-Err._refusal c.requires c.in-Err.ensures)
