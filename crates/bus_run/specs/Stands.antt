-- For which plan and number of ticks a bus stands, and what its run leaves.
use Rattle.std.specs.Prelude.{◌≡◌, ℕ, suc, ◌≤◌, []}
use Rattle.bus_base.specs.declared.samples.Pair.{Pair}
use Rattle.bus_line.specs.declared.cutter.TheConstants.{LAG}
use Rattle.bus_formats.specs.Accepted.{IsAccepted}
use Rattle.bus_formats.specs.Plans.{PlanData}
use Rattle.bus_model.specs.Log.{run_log}
use Rattle.bus_model.specs.Wire.{shown}
use Rattle.bus_model.specs.World.{world, trace}
use Rattle.bus_model.specs.WorldLog.{world_log}
use Rattle.bus_law_run.specs.WorldIsRun.{plan_end}
use Rattle.bus_run.specs.Amounts.{most_attempts, most_words, most_bursts}
use Rattle.bus_run.specs.Parts.{StationsStand, DrivenWireStands}
use Rattle.bus_run.specs.Monitors.{MonitorStands}
use Rattle.bus_run.specs.StationRows.{RowStands}
use Rattle.bus_run.specs.Terminals.{EndsStand}
use Rattle.bus_run.specs.declared.finished.FinishedBus.{FinishedBus}
use Rattle.bus_run.specs.declared.bus.Bus.{Bus}

pub record Stands (plan : PlanData) (ticks : ℕ) (bus : Bus) : Type 0 where
  pub accepted : IsAccepted plan
  -- a run never passes its end by the message table
  pub within : ticks ≤ plan_end plan
  pub row : RowStands (most_attempts plan) plan bus.row (world LAG plan [] [] [] ticks)
  pub wire : DrivenWireStands plan bus.wire (trace LAG plan [] [] [] ticks).driven
  pub monitor : MonitorStands (most_words plan) (most_bursts plan) bus.monitor (world LAG plan [] [] [] ticks)
  pub ends : EndsStand plan bus.ends
  pub ticks_are : bus.ticks ≡ ticks

-- the bus stands for the first ticks of an accepted plan's world
unfoldable pub BusStands : PlanData → ℕ → Bus → Type 0
BusStands plan ticks bus = Stands plan ticks bus

-- what the channels show in a tick of the plan's world
abbrev pub shown_in : PlanData → ℕ → Pair
shown_in plan tick = shown plan.faults (trace LAG plan [] [] [] (suc tick)).driven

-- what the whole run of a plan leaves: its stations, and the log of the message table, which is the one that is found in the world
pub record Finished (plan : PlanData) (bus : FinishedBus) : Type 0 where
  pub stations : StationsStand plan bus.stations.items (world LAG plan [] [] [] (plan_end plan))
  pub log_is : bus.log ≡ run_log LAG plan
  pub found : bus.log ≡ world_log LAG plan (plan_end plan)

unfoldable pub FinishedStands : PlanData → FinishedBus → Type 0
FinishedStands plan bus = Finished plan bus
