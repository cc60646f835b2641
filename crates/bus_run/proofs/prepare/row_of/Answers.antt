use Rattle.std.proofs.Common.{◌∙◌, ap, length}
use Rattle.bus_formats.specs.Plans.{PlanData}
use Rattle.bus_run.proofs.NamedLaws.{named-length}
use Rattle.bus_run.proofs.AcceptedLaws.{addresses-few, objects-accepted}
use Rattle.bus_run.proofs.RowLaws.{row-begins}
use Rattle.bus_run.proofs.prepare.row_of.Goals as goal

pub objects_of-requires : goal.objects_of-requires
objects_of-requires c =
    rw (c.as_slice.ensures.value ∙ ap (λ (p : PlanData). p.stations) c.plan.view_is)
    (addresses-few c.args.plan.now (length c.args.named.now) c.requires.accepted (ap length c.requires.named ∙ named-length c.args.plan.now.stations))

pub row_with-requires-clause-few : goal.row_with-requires-clause-few
row_with-requires-clause-few c = c.requires.accepted.limits.stations

pub returns : goal.returns
returns c =
    row-begins c.args.most c.args.plan.now c.in_ok-objects.objects.items c.row_with.result c.row_with.ensures
    (objects-accepted c.args.plan.now c.in_ok-objects.objects.items c.args.named.now c.requires.accepted c.requires.named
    (rw (← (c.as_slice.ensures.value ∙ ap (λ (p : PlanData). p.stations) c.plan.view_is)) c.in_ok-objects.ensures))
