use Rattle.std.proofs.Common.{◌≡◌, take}
use Rattle.std.specs.Prelude.{sum_by}
use Rattle.bus_run.specs.Amounts.{counted, attempts_of_item}
use Rattle.bus_run.proofs.amounts.attempts_of_items.Given as goal

abbrev pub invariant-loop-item : goal.invariant-loop-item
invariant-loop-item l = l.amount ≡ counted (sum_by attempts_of_item (take l.item-index l.items))
