use Rattle.std.proofs.Common.{◌≡◌, ◌≤◌, [], drop, length}
use Rattle.toml.specs.View.{items_view}
use Rattle.bus_plan.specs.Positions.{positions_from}
use Rattle.bus_plan.proofs.positions.positions.Given as goal

abbrev pub invariant-loop-value : goal.invariant-loop-value
invariant-loop-value l =
    (length l.positions.items ≤ 41)
    × (positions_from l.positions.items (items_view (drop l.value-index l.value-items)) ≡ positions_from [] (items_view l.value-items))
