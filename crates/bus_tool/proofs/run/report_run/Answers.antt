use Rattle.std.proofs.Common.{arith}
use Rattle.bus_run.proofs.AcceptedLaws.{places-below}
use Rattle.bus_run.proofs.Beginning.{as-begun}
use Rattle.bus_tool.proofs.Serving.{served-after}
use Rattle.bus_tool.proofs.run.report_run.Goals as goal

pub prepare-requires-clause-places : goal.prepare-requires-clause-places
prepare-requires-clause-places g c = let all = c.requires.all in places-below c.args.plan.now _ (omega (arith, all))

pub finish-left-requires : goal.finish-left-requires
finish-left-requires g c =
    (c.args.plan.now, 0, _, c.in-Ok.ensures.bus, as-begun c.args.plan.now _ _ _ c.in-Ok.ensures.serves)

pub write_report-requires-clause-ran : goal.write_report-requires-clause-ran
write_report-requires-clause-ran g c =
    (c.finish-left.ensures c.args.plan.now 0 _ c.in-Ok.ensures.bus (as-begun c.args.plan.now _ _ _ c.in-Ok.ensures.serves)).0

pub returns-in-Ok : goal.returns-in-Ok
returns-in-Ok g c =
    let end = c.finish-left.ensures c.args.plan.now 0 _ c.in-Ok.ensures.bus (as-begun c.args.plan.now _ _ _ c.in-Ok.ensures.serves) in
    served-after _ _ _ _ _ _ _ _ _ _ _ _ c.args.plan.now _ c.write_report.ensures.later c.in-Ok.ensures.told end.1 end.2 c.write_report.ensures.wrote
