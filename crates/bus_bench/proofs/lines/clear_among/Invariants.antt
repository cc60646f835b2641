use Rattle.std.proofs.Common.{◌≡◌, ◌≤◌, take}
use Rattle.std.specs.Prelude.{count_by}
use Rattle.bus_retry.specs.Retries.{is_clear}
use Rattle.bus_bench.proofs.lines.clear_among.Given as goal

-- those before the index are counted
abbrev pub invariant-loop-attempt : goal.invariant-loop-attempt
invariant-loop-attempt l = record {
  counts : l.count ≡ count_by (λ a. is_clear a.outcome) (take l.attempt-index l.attempts);
  few : l.count ≤ l.attempt-index;
}
