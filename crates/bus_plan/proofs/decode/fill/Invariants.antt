use Rattle.std.proofs.Common.{◌≡◌, drop}
use Rattle.toml.specs.View.{items_view}
use Rattle.bus_plan.specs.Decode.{words_from}
use Rattle.bus_plan.proofs.decode.fill.Given as goal

abbrev pub invariant-loop-value : goal.invariant-loop-value
invariant-loop-value l = words_from l.words (items_view (drop l.value-index l.value-items)) ≡ words_from l.initial.words (items_view l.value-items)
