use Rattle.std.proofs.Common.{◌≡◌, ◌≤◌, ◌+◌, ◌-◌, ◌++◌}
use Rattle.std.specs.Prelude.{vec_len, vec_capacity}
use Rattle.bus_run.specs.Terminals.{blocks_below}
use Rattle.bus_run.proofs.ends.put_blocks.Given as goal

-- the blocks of the subaddresses before this one were put
abbrev pub invariant-loop-sub : goal.invariant-loop-sub
invariant-loop-sub l = record {
  items : l.blocks.items ≡ l.fn.blocks.items ++ blocks_below l.address l.buffers (l.sub - 1);
  used : vec_len l.blocks + 1 ≤ vec_len l.fn.blocks + l.sub;
  room : vec_capacity l.blocks ≡ vec_capacity l.fn.blocks;
}
