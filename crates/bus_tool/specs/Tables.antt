-- That the run of a plan is the one that the message table says (MIL-STD-1553B 4.3.3.6).
use Rattle.std.specs.Prelude.{ℕ, ◌<◌, ◌≤◌, List, [], All, IfSome}
use Rattle.std.specs.List.{AllByRecursion as Each}
use Rattle.bus_base.specs.declared.samples.Channel.{Channel}
use Rattle.bus_formats.specs.Plans.{PlanData}
use Rattle.bus_formats.specs.declared.fault.Fault.{Fault}
use Rattle.bus_law_run.specs.WorldIsRun.{plan_end, WorldIsRun}
use Rattle.bus_line.specs.declared.cutter.TheConstants.{LAG}
use Rattle.bus_load.specs.InTime.{StartsAsPlanned, FramesStartAsPlanned}
use Rattle.bus_load.specs.Load.{starting}
use Rattle.bus_model.specs.World.{drivers_in}
use Rattle.bus_model.specs.WorldLog.{world_log}
use Rattle.bus_survey.specs.Alone.{with_fault_alone}

pub record IsTablesRun (plan : PlanData) : Type 0 where
  -- the world does in each tick what the table's run says: it is over in the tick in which that ends and in none before, and the log that is found in it then
  -- is the table's
  pub world : WorldIsRun plan
  -- and no two stations ever drove one channel
  pub alone : (tick : ℕ) → tick < plan_end plan → (c : Channel) → drivers_in LAG plan [] [] [] tick c ≤ 1

-- so are the runs of a plan with each of these faults alone
abbrev pub AreTablesRuns : PlanData → List Fault → Type 0
AreTablesRuns plan faults = All (λ fault. IsTablesRun (with_fault_alone plan fault)) faults

-- each frame of the station that starts does so in its planned tick: in the plan's run by the message table, and in the log that is found in its world
pub record FramesAreInTime (plan : PlanData) : Type 0 where
  pub tables : FramesStartAsPlanned LAG [] plan
  pub found : IfSome (starting plan) (λ station. Each (StartsAsPlanned station) (world_log LAG plan (plan_end plan)).attempts)
