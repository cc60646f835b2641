use Rattle.std.proofs.Common.{◌≡◌, map, drop}
use Rattle.toml.specs.View.{table_view}
use Rattle.bus_plan.specs.Rows.{row_of}
use Rattle.bus_plan.specs.Rules.{first_missing}
use Rattle.bus_plan.proofs.rules.first_missing.Given as goal

abbrev pub invariant-loop-row : goal.invariant-loop-row
invariant-loop-row l =
    first_missing l.head (map row_of (drop l.row-index l.rows)) l.path (table_view l.table) ≡ first_missing l.head (map row_of l.rows) l.path (table_view l.table)
