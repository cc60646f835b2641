use Rattle.bus_run.proofs.Beginning.{no-place}
use Rattle.bus_tool.proofs.run.capture_run.Goals as goal

pub prepare-requires-clause-places : goal.prepare-requires-clause-places
prepare-requires-clause-places g c = no-place _ c.args.plan c.requires.none

pub captured-requires : goal.captured-requires
captured-requires g c = (c.args.plan, _, c.in-Ok.ensures.bus, c.in-Ok.ensures.serves)

pub returns : goal.returns
returns g c told said spare = c.captured.ensures c.args.plan _ told said spare c.in-Ok.ensures.bus c.in-Ok.ensures.serves
