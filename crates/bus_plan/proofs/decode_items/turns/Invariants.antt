use Rattle.std.proofs.Common.{◌≡◌, ◌≤◌, [], drop, length}
use Rattle.toml.specs.View.{items_view}
use Rattle.bus_plan.specs.DecodeItems.{turns_from}
use Rattle.bus_plan.proofs.decode_items.turns.Given as goal

abbrev pub invariant-loop-value : goal.invariant-loop-value
invariant-loop-value l =
    (length l.turns.items ≤ 3)
    × (turns_from l.turns.items (items_view (drop l.value-index l.value-items)) ≡ turns_from [] (items_view l.value-items))
