use Rattle.std.proofs.Common.{◌≡◌, true}
use Rattle.std.specs.Prelude.{replicate}
use Rattle.bus_run.proofs.prepare.all_present.Given as goal

-- so many were put
abbrev pub invariant-loop : goal.invariant-loop
invariant-loop l = l.present.items ≡ replicate l.counter true
