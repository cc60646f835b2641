use Rattle.std.proofs.Common.{◌≡◌, ◌≤◌, ◌*◌, take}
use Rattle.std.specs.Prelude.{sum_by}
use Rattle.bus_load.specs.Load.{item_cost}
use Rattle.bus_load.proofs.costs.cost_of_messages.Given as goal

abbrev pub invariant-loop-item : goal.invariant-loop-item
invariant-loop-item l = (l.ticks ≡ sum_by (item_cost l.long) (take l.item-index l.items)) × (l.ticks ≤ 1000000 * l.item-index)
