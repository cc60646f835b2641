use Rattle.std.proofs.Common.{◌≡◌, ◌+◌, drop}
use Rattle.toml.specs.View.{items_view}
use Rattle.bus_plan.specs.FaultRules.{first_undetectable}
use Rattle.bus_plan.proofs.fault_rules.first_undetectable.Given as goal

abbrev pub invariant-loop-value : goal.invariant-loop-value
invariant-loop-value l =
    (l.number ≡ l.value-index + 1)
    × (first_undetectable l.number (items_view (drop l.value-index l.value-items)) ≡ first_undetectable 1 (items_view l.value-items))
