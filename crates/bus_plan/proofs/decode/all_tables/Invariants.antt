use Rattle.std.proofs.Common.{◌≡◌, ◌++◌, drop}
use Rattle.toml.specs.View.{items_view}
use Rattle.bus_plan.specs.Decode.{tables}
use Rattle.bus_plan.proofs.decode.all_tables.Given as goal

abbrev pub invariant-loop-value : goal.invariant-loop-value
invariant-loop-value g l = l.all.items ++ tables (g.T.FromTable.meaning l.head) (items_view (drop l.value-index l.value-items)) ≡ tables (g.T.FromTable.meaning l.head) (items_view l.value-items)
