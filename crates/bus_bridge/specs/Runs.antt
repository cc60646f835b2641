-- For which ticks of both worlds the two buses of a bridge stand.
use Rattle.std.specs.Prelude.{◌≡◌, ℕ, suc, ◌<◌, ◌≤◌, false, List, [], ◌∷◌, length, take, drop, All, ⊤, vec_capacity}
use Rattle.std.specs.List.{AllByRecursion as Each}
use Rattle.bus_line.specs.declared.cutter.TheConstants.{LAG}
use Rattle.bus_formats.specs.Plans.{PlanData}
use Rattle.bus_formats.specs.declared.log.Delivery.{Delivery}
use Rattle.bus_model.specs.Memory.{TimedLoad}
use Rattle.bus_model.specs.Run.{run_of, run_end}
use Rattle.bus_model.specs.World.{world, trace, run_is_over}
use Rattle.bus_model.specs.WorldLog.{attempts}
use Rattle.bus_law_plans.specs.Memories.{IsBlock}
use Rattle.bus_run.specs.Amounts.{most_attempts, most_deliveries}
use Rattle.bus_run.specs.Joined.{JoinedStands}
use Rattle.bus_run.specs.Settings.{Setting, unserved}
use Rattle.bus_run.specs.declared.joined.JoinedBus.{JoinedBus}
use Rattle.bus_bridge.specs.Inputs.{MayBridge}
use Rattle.bus_bridge.specs.Worlds.{taken, loads, loads_by, EndsAt}
use Rattle.bus_bridge.specs.declared.bridge.Bridge.{Bridge}
use Rattle.bus_bridge.specs.declared.inputs.BridgePlan.{BridgePlan}

-- a bus over these loads
abbrev pub with_loads : PlanData → List TimedLoad → Setting
with_loads plan loads = record (unserved plan) { loads = loads }

-- the bus stands for the first ticks of its plan's world over these loads
abbrev pub RunsWith : PlanData → List TimedLoad → ℕ → JoinedBus → Type 0
RunsWith plan loads t bus =
    (count : ℕ) × JoinedStands (with_loads plan loads) (attempts LAG plan loads [] [] (world LAG plan loads [] [] t)) count (trace LAG plan loads [] [] t) bus

-- one tick more has room: the attempts so far are no more than room was made for, and the number of the tick has 32 bits
pub record HasRoom (plan : PlanData) (loads : List TimedLoad) (t : ℕ) : Type 0 where
  pub attempts_few : length (attempts LAG plan loads [] [] (world LAG plan loads [] [] t)) ≤ most_attempts plan
  pub small : t < 4294967295

-- the tick in which the run of a plan over these loads ends by the message table
abbrev pub table_end : PlanData → List TimedLoad → ℕ
table_end plan loads = run_end (run_of LAG loads plan)

-- blocks in the order of their ticks, one in a tick, from a tick on
abbrev pub AreLater : ℕ → List Delivery → Type 0
AreLater n [] = ⊤
AreLater n (d ∷ ds) = (n ≤ d.tick.0) × AreLater (suc d.tick.0) ds

-- of both buses of a plan nothing ran
pub record Begins (plan : BridgePlan) (bridge : Bridge) : Type 0 where
  pub may : MayBridge plan
  pub first_bus : RunsWith plan.first [] 0 bridge.first
  pub second_bus : RunsWith plan.second [] 0 bridge.second
  pub a_is : bridge.a ≡ plan.a
  pub b_is : bridge.b ≡ plan.b
  pub pairs_are : bridge.pairs ≡ plan.pairs
  pub none_taken : bridge.taken.items ≡ []
  pub none_loaded : bridge.loaded ≡ 0
  pub room : most_deliveries plan.first ≤ vec_capacity bridge.taken

unfoldable pub BridgeBegins : BridgePlan → Bridge → Type 0
BridgeBegins plan bridge = Begins plan bridge

-- the first bus ran so many ticks, and the second one none
pub record FirstRuns (plan : BridgePlan) (t : ℕ) (bridge : Bridge) : Type 0 where
  pub may : MayBridge plan
  pub first_bus : RunsWith plan.first [] t bridge.first
  pub second_bus : RunsWith plan.second [] 0 bridge.second
  pub a_is : bridge.a ≡ plan.a
  pub b_is : bridge.b ≡ plan.b
  pub pairs_are : bridge.pairs ≡ plan.pairs
  pub taken_are : bridge.taken.items ≡ taken plan t
  pub none_loaded : bridge.loaded ≡ 0
  pub room : most_deliveries plan.first ≤ vec_capacity bridge.taken
  pub blocks : Each (λ d. IsBlock d.words) bridge.taken.items
  pub within : t ≤ table_end plan.first []
  pub before : (u : ℕ) → u < t → run_is_over LAG plan.first [] [] [] u ≡ false

-- the first bus ran to its end, so many ticks, and the second one v ticks; of the blocks that were taken those before tick u are loaded
pub record SecondRuns (plan : BridgePlan) (first v u : ℕ) (bridge : Bridge) : Type 0 where
  pub may : MayBridge plan
  pub first_ends : EndsAt plan.first [] first
  pub first_within : first ≤ table_end plan.first []
  pub first_bus : RunsWith plan.first [] first bridge.first
  pub second_bus : RunsWith plan.second (loads_by plan.b plan.pairs (take bridge.loaded bridge.taken.items)) v bridge.second
  pub b_is : bridge.b ≡ plan.b
  pub pairs_are : bridge.pairs ≡ plan.pairs
  pub taken_are : bridge.taken.items ≡ taken plan first
  pub blocks : Each (λ d. IsBlock d.words) bridge.taken.items
  pub later : AreLater u (drop bridge.loaded bridge.taken.items)
  pub within : v ≤ table_end plan.second (loads plan first)
  pub before : (t : ℕ) → t < v → run_is_over LAG plan.second (loads plan first) [] [] t ≡ false
