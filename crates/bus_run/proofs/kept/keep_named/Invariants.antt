use Rattle.bus_run.proofs.Gathered.{Gathered}
use Rattle.bus_run.proofs.kept.keep_named.Given as goal

abbrev pub invariant-loop-address : goal.invariant-loop-address
invariant-loop-address g l = Gathered l.fn.subsystems.items l.subsystems.items l.named l.kept l.address
