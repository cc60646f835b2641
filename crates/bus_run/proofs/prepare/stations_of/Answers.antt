use Rattle.std.proofs.Common.{◌∙◌, ap}
use Rattle.bus_formats.specs.Plans.{PlanData}
use Rattle.bus_run.proofs.prepare.stations_of.Goals as goal

pub made_of-requires : goal.made_of-requires
made_of-requires c = rw (c.as_slice.ensures.value ∙ ap (λ (p : PlanData). p.stations) c.plan.view_is) c.requires
