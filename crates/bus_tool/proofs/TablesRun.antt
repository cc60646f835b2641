-- The run of a plan is the one that the message table says.
use Rattle.std.proofs.Common.{◌≡◌, List, [], reverse, Option, Some, None, sym, ap, subst}
use Rattle.std.specs.Prelude.{IfSome}
use Rattle.std.specs.List.{AllByRecursion as Each}
use Rattle.bus_formats.specs.Accepted.{IsAccepted}
use Rattle.bus_formats.specs.Logs.{LogData}
use Rattle.bus_formats.specs.Plans.{StationData, PlanData, without_subsystems}
use Rattle.bus_formats.specs.declared.log.Attempt.{Attempt}
use Rattle.bus_line.specs.declared.cutter.TheConstants.{LAG}
use Rattle.bus_load.specs.InTime.{StartsAsPlanned, FramesStartAsPlanned}
use Rattle.bus_load.specs.Load.{starting}
use Rattle.bus_model.proofs.RunEnds.{run-ends}
use Rattle.bus_model.specs.Log.{run_log}
use Rattle.bus_model.specs.WorldLog.{world_log}
use Rattle.bus_law_plans.proofs.Lists.{each-reverse}
use Rattle.bus_law_run.specs.WorldIsRun.{plan_run, plan_end, WorldIsRun}
use Rattle.bus_law_whole.proofs.EachWorld.{each-world}
use Rattle.bus_survey.proofs.AloneLaws.{each-alone}
use Rattle.bus_survey.proofs.WithoutSubsystems.{accepted-without}
use Rattle.bus_tool.specs.Tables.{IsTablesRun, AreTablesRuns, FramesAreInTime}
use Rattle.bus_tool.specs.Texts.{plan_run as plan_for}
use Rattle.bus_tool.specs.declared.text.Text.{Text}
use Rattle.bus_tool.specs.declared.text.Text.TheVariants.{Report, Capture}

-- the plan that is run for a text is accepted where the plan that was read is
runs-accepted : (text : Text) (plan : PlanData) → IsAccepted plan → IsAccepted (plan_for text plan)
runs-accepted Report plan accepted = accepted
runs-accepted Capture plan accepted = accepted-without plan accepted

-- so is the run of each accepted plan
pub each-run : (plan : PlanData) → IsAccepted plan → IsTablesRun plan
each-run plan accepted =
    let is : WorldIsRun plan = each-world plan accepted (run-ends LAG [] plan) in
    record { world = is; alone = λ tick early. (is.orderly tick early).alone }

pub tables-run : (text : Text) (plan : PlanData) → IsAccepted plan → IsTablesRun (plan_for text plan)
tables-run text plan accepted = each-run (plan_for text plan) (runs-accepted text plan accepted)

-- and the survey of an accepted plan
pub survey-told : (plan : PlanData) → IsAccepted plan → AreTablesRuns (without_subsystems plan) plan.faults
survey-told plan accepted i d within =
    each-run _ (each-alone (without_subsystems plan) (accepted-without plan accepted) i d within)

-- ---- frames that start as planned do so in the world too

module _ (plan : PlanData) (is : WorldIsRun plan) where
  same-attempts : (world_log LAG plan (plan_end plan)).attempts ≡ reverse (plan_run plan).attempts
  unfolding run_log
  same-attempts = ap (λ (log : LogData). log.attempts) is.log

  in-world : (o : Option StationData) → IfSome o (λ station. Each (StartsAsPlanned station) (plan_run plan).attempts) →
      IfSome o (λ station. Each (StartsAsPlanned station) (world_log LAG plan (plan_end plan)).attempts)
  in-world None starts = tt
  in-world (Some station) starts =
      subst (λ (attempts : List Attempt). Each (StartsAsPlanned station) attempts) (sym same-attempts)
      (each-reverse (StartsAsPlanned station) (plan_run plan).attempts starts)

pub in-time : (plan : PlanData) → IsAccepted plan → FramesStartAsPlanned LAG [] plan → FramesAreInTime plan
in-time plan accepted starts =
    record { tables = starts; found = in-world plan (each-world plan accepted (run-ends LAG [] plan)) (starting plan) starts }
