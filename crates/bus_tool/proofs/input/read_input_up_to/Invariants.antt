use Rattle.std.proofs.Common.{◌≤◌, ◌+◌, ◌-◌, length, vec_len}
use Rattle.std.specs.Io.KnownBytes.{Consumes}
use Rattle.bus_tool.proofs.input.read_input_up_to.Given as goal

-- what was read so far is what the source gave
abbrev pub invariant-turns : goal.invariant-turns
invariant-turns g l = record {
  consumed : Consumes (g.S.Source.left l.fn.source) (g.S.Source.left l.source) l.input.items;
  short : length l.input.items ≤ l.most + 1;
  later : g.S.Source.faults l.fn.source ≤ g.S.Source.faults l.source;
}

-- each turn reads a byte at least
abbrev pub decreases-turns : goal.decreases-turns
decreases-turns g l = l.most + 1 - vec_len l.input
