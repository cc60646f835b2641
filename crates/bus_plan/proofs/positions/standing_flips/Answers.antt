use Rattle.bus_plan.proofs.Flips.{taken_flips, refused_flips}
use Rattle.bus_plan.proofs.positions.standing_flips.Goals as goal

pub returns-in-Ok : goal.returns-in-Ok
returns-in-Ok c = taken_flips c.args.positions.now c.in-Ok.set c.requires c.in-Ok.ensures

pub returns-in-Err : goal.returns-in-Err
returns-in-Err c = refused_flips c.args.positions.now c.in-Err._refusal c.requires c.in-Err.ensures
