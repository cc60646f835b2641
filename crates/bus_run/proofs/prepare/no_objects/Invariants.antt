use Rattle.std.proofs.Common.{◌≡◌, None}
use Rattle.std.specs.Prelude.{replicate}
use Rattle.bus_run.proofs.prepare.no_objects.Given as goal

-- so many were put
abbrev pub invariant-loop : goal.invariant-loop
invariant-loop l = l.objects.items ≡ replicate l.counter None
