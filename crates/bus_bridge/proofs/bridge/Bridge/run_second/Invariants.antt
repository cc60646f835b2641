use Rattle.std.proofs.Common.{◌-◌, ℕ}
use Rattle.bus_bridge.specs.Runs.{SecondRuns}
use Rattle.bus_bridge.specs.declared.inputs.BridgePlan.{BridgePlan}
use Rattle.bus_bridge.proofs.bridge.Bridge.run_second.Given as goal

-- so many ticks were run
abbrev pub invariant-ticks : goal.invariant-ticks
invariant-ticks l = (plan : BridgePlan) (first : ℕ) → SecondRuns plan first 0 0 l.fn.self → (t : ℕ) × SecondRuns plan first t t l.self

-- no run has more ticks than 32 bits hold
abbrev pub decreases-ticks : goal.decreases-ticks
decreases-ticks l = 4294967295 - l.self.second.ticks
