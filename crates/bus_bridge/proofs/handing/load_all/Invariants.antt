use Rattle.std.proofs.Common.{◌≡◌, ◌++◌, ◌∷◌, ℕ, List, take, length}
use Rattle.bus_base.specs.declared.samples.Drive.{Drive}
use Rattle.bus_base.specs.declared.samples.Pair.{Pair}
use Rattle.bus_formats.specs.Plans.{PlanData}
use Rattle.bus_formats.specs.declared.log.Attempt.{Attempt}
use Rattle.bus_model.specs.Memory.{TimedLoad}
use Rattle.bus_run.specs.Joined.{JoinedStands}
use Rattle.bus_bridge.specs.Runs.{with_loads}
use Rattle.bus_bridge.specs.Worlds.{loads_of}
use Rattle.bus_bridge.proofs.handing.load_all.Given as goal

-- the loads of the pairings before the index were made
abbrev pub invariant-loop-pairing : goal.invariant-loop-pairing
invariant-loop-pairing l =
    (plan : PlanData) (loads : List TimedLoad) (found : List Attempt) (count : ℕ) (shown : Pair) (past : List Pair) (driven : List (List Drive)) →
    length past ≡ l.delivery.tick.0 →
    JoinedStands (with_loads plan loads) found count (record { shown = shown ∷ past; driven = driven }) l.fn.bus →
    JoinedStands (with_loads plan (loads ++ loads_of l.address (take l.pairing-index l.pairs) l.delivery)) found count
    (record { shown = shown ∷ past; driven = driven }) l.bus
