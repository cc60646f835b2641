-- Two buses that one device joins, in their worlds: what a terminal of the first one takes is put up for sending in a terminal of the second one, after
-- each tick (the project's own).
use Rattle.std.specs.Prelude.{◌≡◌, ℕ, ◌+◌, ◌<◌, Bool, true, false, ◌==◌, ◌&&◌, if◌then◌else◌, List, [], ◌∷◌, ◌++◌, map, filter_map, flat_map, reverse}
use Rattle.std.specs.List.{list_any}
use Rattle.bus_base.specs.declared.samples.Pair.{Pair}
use Rattle.bus_line.specs.declared.cutter.TheConstants.{LAG}
use Rattle.bus_formats.specs.Plans.{PlanData}
use Rattle.bus_formats.specs.declared.log.Delivery.{Delivery}
use Rattle.bus_model.specs.Memory.{TimedLoad}
use Rattle.bus_model.specs.Outside as outside
use Rattle.bus_model.specs.Outside.{load_by}
use Rattle.bus_model.specs.Run.{run_of, run_end}
use Rattle.bus_model.specs.World.{world, trace, clashes, run_is_over}
use Rattle.bus_model.specs.WorldLog.{attempts}
use Rattle.bus_run.specs.Deliveries.{taken_in}
use Rattle.bus_run.specs.Settings.{unserved}
use Rattle.bus_run.specs.declared.taken.TakenBlock.{TakenBlock}
use Rattle.bus_bridge.specs.Logs.{BridgeLogData}
use Rattle.bus_bridge.specs.declared.inputs.BridgePlan.{BridgePlan}
use Rattle.bus_bridge.specs.declared.pairings.Pairing.{Pairing}

-- ---- what is handed on

abbrev pub is_paired : List Pairing → ℕ → Bool
is_paired pairs sub = list_any (λ p. p.from == sub) pairs

-- a block that a terminal took is handed on where it is the terminal with this address, and a pairing names the subaddress
abbrev pub handed_on : ℕ → List Pairing → TakenBlock → List Delivery
handed_on address pairs block =
    if (block.address == address) && is_paired pairs block.delivery.sub then block.delivery ∷ [] else []

module _ (bridge : BridgePlan) where
  -- of the blocks that the first bus's terminals took whole in the newest tick
  abbrev pub handed_newest : List Pair → List Delivery
  handed_newest past = flat_map (handed_on bridge.a bridge.pairs) (taken_in (unserved bridge.first) past)

  -- in all ticks, in order
  unfoldable pub handed : List Pair → List Delivery
  handed [] = []
  handed (shown ∷ past) = handed past ++ handed_newest (shown ∷ past)

  -- in the first ticks of the first plan's world
  abbrev pub taken : ℕ → List Delivery
  taken t = handed (world LAG bridge.first [] [] [] t)

-- ---- what is put up for sending

abbrev pub pairing_of : Pairing → outside.Pairing
pairing_of p = record { from = p.from; to = p.to }

-- a block is put up in the tick in which it was taken, for each pairing that names its subaddress
abbrev pub loads_of : ℕ → List Pairing → Delivery → List TimedLoad
loads_of address pairs block = filter_map (load_by address block) (map pairing_of pairs)

abbrev pub loads_by : ℕ → List Pairing → List Delivery → List TimedLoad
loads_by address pairs blocks = flat_map (loads_of address pairs) blocks

-- all that is put up where the first bus runs so many ticks: by tick, then by pairing
abbrev pub loads : BridgePlan → ℕ → List TimedLoad
loads bridge t = loads_by bridge.b bridge.pairs (taken bridge t)

-- ---- both buses

-- the run of a plan over these loads is over after so many ticks, and wasn't before
pub record EndsAt (plan : PlanData) (loads : List TimedLoad) (ticks : ℕ) : Type 0 where
  pub over : run_is_over LAG plan loads [] [] ticks ≡ true
  pub before : (t : ℕ) → t < ticks → run_is_over LAG plan loads [] [] t ≡ false

-- what is found in the worlds of both buses after so many ticks of each
unfoldable pub bridge_log : BridgePlan → ℕ → ℕ → BridgeLogData
bridge_log bridge first second = record {
  taken = taken bridge first;
  attempts = attempts LAG bridge.second (loads bridge first) [] [] (world LAG bridge.second (loads bridge first) [] [] second);
  first_end = record { 0 = first };
  second_end = record { 0 = second };
  clashes = clashes bridge.first.faults (trace LAG bridge.first [] [] [] first).driven
      + clashes bridge.second.faults (trace LAG bridge.second (loads bridge first) [] [] second).driven;
}

-- the log is that of both buses to their ends. Both runs are those of the message table: they end where it says, the second one with its attempts, and in
-- no tick several stations drove one channel
pub record IsLogOf (bridge : BridgePlan) (log : BridgeLogData) : Type 0 where
  pub first : ℕ
  pub second : ℕ
  pub first_ends : EndsAt bridge.first [] first
  pub second_ends : EndsAt bridge.second (loads bridge first) second
  pub is : log ≡ bridge_log bridge first second
  pub first_table : first ≡ run_end (run_of LAG [] bridge.first)
  pub second_table : second ≡ run_end (run_of LAG (loads bridge first) bridge.second)
  pub attempts_table : log.attempts ≡ reverse (run_of LAG (loads bridge first) bridge.second).attempts
  pub none_clash : log.clashes ≡ 0
