use Rattle.std.proofs.Common.{refl, ap, ◌∙◌, inl}
use Rattle.bus_law_run.specs.WorldIsRun.{plan_end}
use Rattle.bus_tool.specs.Texts.{status_of}
use Rattle.bus_tool.proofs.Serving.{same-report}
use Rattle.bus_tool.proofs.Ranges.{log-fits}
use Rattle.bus_tool.proofs.run.write_report.Goals as goal

pub report-requires : goal.report-requires
report-requires g c a i is =
    log-fits c.args.plan.now (plan_end c.args.plan.now) a i c.requires.accepted (rw (c.log.ensures.found c.args.plan.now c.requires.ran) at is)

pub returns-in-Ok-clause-wrote : goal.returns-in-Ok-clause-wrote
returns-in-Ok-clause-wrote g c = inl record {
  left = c.args.bus;
  has = refl;
  stands = c.requires.ran;
  status_is = c.status_of-status.ensures ∙ ap status_of (c.log-in-Ok.ensures.tables c.args.plan.now c.requires.ran);
  written = same-report _ _ _ c.args.plan.now _ _ (c.log.ensures.tables c.args.plan.now c.requires.ran) c.in-Ok.ensures.bytes;
}
