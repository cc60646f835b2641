use Rattle.std.proofs.Common.{◌≡◌, ◌+◌, ◌*◌, ◌≤◌, ◌++◌, length, drop}
use Rattle.bus_subsystem.specs.Deliveries.{counts_from, tally_line}
use Rattle.bus_subsystem.proofs.tally.line_of.Given as goal

-- what is written and the counts that are left make the whole line
abbrev pub invariant-loop-sub : goal.invariant-loop-sub
invariant-loop-sub l = record {
  text : l.line ++ counts_from l.sub (drop l.sub l.counts) ≡ tally_line l.counts;
  grows : length l.line ≤ 5 + 14 * l.sub;
}
