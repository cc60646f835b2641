use Rattle.std.proofs.Common.{◌≡◌, ◌++◌, replicate, take, length}
use Rattle.bus_orders.proofs.obeying.filled.Given as goal

-- the words so far
abbrev pub invariant-loop-place : goal.invariant-loop-place
invariant-loop-place l = record {
  words : l.block ≡ take l.place (l.words ++ replicate l.count 0);
  count : length l.block ≡ l.place;
}
