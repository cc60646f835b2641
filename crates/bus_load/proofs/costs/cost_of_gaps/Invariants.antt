use Rattle.std.proofs.Common.{◌≡◌, ◌≤◌, ◌*◌, take}
use Rattle.std.specs.Prelude.{sum_by}
use Rattle.bus_load.specs.Load.{gap_beyond}
use Rattle.bus_load.proofs.costs.cost_of_gaps.Given as goal

abbrev pub invariant-loop-item : goal.invariant-loop-item
invariant-loop-item l = (l.ticks ≡ sum_by gap_beyond (take l.item-index l.items)) × (l.ticks ≤ 65535 * l.item-index)
