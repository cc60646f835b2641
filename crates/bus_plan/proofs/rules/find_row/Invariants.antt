use Rattle.std.proofs.Common.{◌≡◌, map, drop}
use Rattle.bus_plan.specs.Rows.{row_of, find_row}
use Rattle.bus_plan.proofs.rules.find_row.Given as goal

abbrev pub invariant-loop-row : goal.invariant-loop-row
invariant-loop-row l = find_row l.head (map row_of (drop l.row-index l.rows)) l.key ≡ find_row l.head (map row_of l.rows) l.key
