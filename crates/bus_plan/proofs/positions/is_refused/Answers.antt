use Rattle.bus_plan.proofs.Flips.{taken_detectable, refused_undetectable}
use Rattle.bus_plan.proofs.positions.is_refused.Goals as goal

pub returns-in-Ok : goal.returns-in-Ok
returns-in-Ok c = taken_detectable c.args.positions.now c.in-Ok._set c.in-Ok.ensures

pub returns-in-Err : goal.returns-in-Err
returns-in-Err c = refused_undetectable c.args.positions.now c.in-Err._refusal c.requires c.in-Err.ensures
