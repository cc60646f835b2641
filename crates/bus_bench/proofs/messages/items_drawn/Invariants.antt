use Rattle.std.proofs.Common.{◌≡◌, ◌+◌, ◌-◌, ◌^◌, ◌<◌, ◌++◌}
use Rattle.bus_bench.specs.Generated.{items_from}
use Rattle.bus_bench.proofs.messages.items_drawn.Given as goal

-- those drawn so far, with those that are still to be drawn, are all
abbrev pub invariant-loop-i : goal.invariant-loop-i
invariant-loop-i l = record {
  range : l.drawn < 2 ^ 31;
  whole : l.items.items ++ items_from (l.i + 1) l.drawn (l.count - l.i) ≡ items_from 1 l.number l.count;
}
