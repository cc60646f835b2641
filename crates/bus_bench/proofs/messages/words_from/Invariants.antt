use Rattle.std.proofs.Common.{◌≡◌, ◌+◌, ◌-◌, ◌++◌, length}
use Rattle.bus_bench.specs.Generated.{words_from}
use Rattle.bus_bench.proofs.messages.words_from.Given as goal

-- those so far, with those that are still to come, are all
abbrev pub invariant-loop-i : goal.invariant-loop-i
invariant-loop-i l = record {
  long : length l.words ≡ l.i;
  whole : l.words ++ words_from (l.first + l.i) (l.count - l.i) ≡ words_from l.first l.count;
}
