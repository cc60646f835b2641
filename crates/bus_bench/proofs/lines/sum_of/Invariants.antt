use Rattle.std.proofs.Common.{◌≡◌, take}
use Rattle.bus_bench.specs.Lines.{sum_of}
use Rattle.bus_bench.proofs.lines.sum_of.Given as goal

-- those before the index are added
abbrev pub invariant-loop-heard : goal.invariant-loop-heard
invariant-loop-heard l = l.sum ≡ sum_of (take l.heard-index l.words)
