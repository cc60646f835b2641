use Rattle.std.proofs.Common.{◌≡◌, drop}
use Rattle.toml.specs.View.{items_view}
use Rattle.bus_plan.specs.Decode.{bits_from}
use Rattle.bus_plan.proofs.decode.bits.Given as goal

abbrev pub invariant-loop-value : goal.invariant-loop-value
invariant-loop-value l = bits_from l.which l.bits (items_view (drop l.value-index l.value-items)) ≡ bits_from l.which 0 (items_view l.value-items)
