-- That the world of a plan does what its run by the message table says.
use Rattle.std.specs.Prelude.{◌≡◌, ◌⊎◌, ℕ, suc, ◌+◌, ◌*◌, ◌<◌, ◌≤◌, true, List, [], reverse, length, slice_get, sum_by, Some}
use Rattle.std.specs.List.{AllByRecursion as Each}
use Rattle.bus_line.specs.Channels.{valid, bursts}
use Rattle.bus_line.specs.declared.cutter.TheConstants.{LAG}
use Rattle.bus_formats.specs.Plans.{StationData, PlanData}
use Rattle.bus_model.specs.Control.{keeps}
use Rattle.bus_model.specs.Log.{delivered_to, run_log}
use Rattle.bus_model.specs.Memory.{received_on}
use Rattle.bus_model.specs.Message.{Delivered}
use Rattle.bus_model.specs.Run.{Run, most_attempts, run_of, run_end}
use Rattle.bus_model.specs.Starts.{starts}
use Rattle.bus_model.specs.World.{world, run_is_over}
use Rattle.bus_model.specs.WorldLog.{attempts, world_log}
use Rattle.bus_law_plans.specs.Amounts.{station_ticks}
use Rattle.bus_law_plans.specs.Sent.{IsDeliveredIn}
use Rattle.bus_law_table.specs.Happened.{blocks_found}
use Rattle.bus_law_phases.specs.Passages.{IsOrderly}
use Rattle.bus_law_phases.specs.Scenarios.{Scenario, whole_scenario}
use Rattle.bus_law_run.specs.Blocks.{deliveries_of}

-- the bus of a plan: every station is present, and nothing is put up for sending or taken from outside
abbrev pub plan_scenario : PlanData → Scenario
plan_scenario plan = whole_scenario LAG plan [] [] []

-- its run by the message table, and the tick in which that ends
abbrev pub plan_run : PlanData → Run
plan_run plan = run_of LAG [] plan

abbrev pub plan_end : PlanData → ℕ
plan_end plan = run_end (plan_run plan)

-- after t ticks no more attempts ended than the items of the plan can have, three bursts for each of them, and forty words for each burst; and no burst
-- was longer than forty words
pub record IsWithin (plan : PlanData) (t : ℕ) : Type 0 where
  pub attempts_few : length (attempts LAG plan [] [] [] (world LAG plan [] [] [] t)) ≤ most_attempts plan
  pub bursts_few : length (bursts LAG (world LAG plan [] [] [] t)) ≤ 3 * most_attempts plan
  pub words_few : length (valid LAG (world LAG plan [] [] [] t)) ≤ 120 * most_attempts plan
  pub short : Each (λ whole. whole.burst.ticks ≤ 1600) (bursts LAG (world LAG plan [] [] [] t))

-- the words of a receive block are those of a block that the station's terminal took in tick t, on this subaddress: one that a message of the plan
-- sent, whole
pub record IsSentTo (plan : PlanData) (station : StationData) (t sub : ℕ) (words : List ℕ) : Type 0 where
  pub block : Delivered
  pub address : block.address ≡ station.terminal.address
  pub tick : block.delivery.tick.0 ≡ t
  pub subaddress : block.delivery.sub ≡ sub
  pub words_are : words ≡ block.delivery.words
  pub sent : IsDeliveredIn LAG [] plan (most_attempts plan) block

-- a receive block of a station's terminal after t ticks
abbrev pub block_after : PlanData → StationData → ℕ → ℕ → List ℕ
block_after plan station t sub = received_on (keeps LAG station (starts plan station) [] [] (world LAG plan [] [] [] t)) sub

pub record WorldIsRun (plan : PlanData) : Type 0 where
  -- when the run ends by the message table, all that a monitor hears, each attempt, and what is left of the terminals is the table's
  pub log : world_log LAG plan (plan_end plan) ≡ run_log LAG plan
  -- in that tick the run is over
  pub over : run_is_over LAG plan [] [] [] (plan_end plan) ≡ true
  -- and no tick before is the end; in each of them control is in one hand, and no two stations drive one channel
  pub orderly : (t : ℕ) → t < plan_end plan → IsOrderly (plan_scenario plan) t
  -- the blocks that terminals took are the table's, in the order of time
  pub blocks : blocks_found LAG plan [] [] [] (world LAG plan [] [] [] (plan_end plan)) ≡ reverse (plan_run plan).deliveries
  -- and each terminal took those that the table delivers to it
  pub deliveries : (place : ℕ) (station : StationData) → slice_get plan.stations place ≡ Some station →
      deliveries_of LAG station (starts plan station) [] [] (world LAG plan [] [] [] (plan_end plan)) ≡ delivered_to station.terminal.address (plan_run plan)
  -- where no fault deceives the count of an answer's words, each receive block of each terminal stays in each tick, or becomes one that was sent, whole
  pub whole : (plan_run plan).counted ≡ true → (t : ℕ) → t < plan_end plan → (place : ℕ) (station : StationData) →
      slice_get plan.stations place ≡ Some station → (sub : ℕ) →
      (block_after plan station (suc t) sub ≡ block_after plan station t sub) ⊎ IsSentTo plan station t sub (block_after plan station (suc t) sub)
  -- and all is within its bounds
  pub ends : plan_end plan ≤ 88 + sum_by station_ticks plan.stations + 10000 * most_attempts plan
  pub within : (t : ℕ) → t ≤ plan_end plan → IsWithin plan t
