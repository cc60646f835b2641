use Rattle.std.proofs.Common.{◌≡◌, take}
use Rattle.bus_run.proofs.copies.copy_loads.Given as goal

abbrev pub invariant-loop-load : goal.invariant-loop-load
invariant-loop-load l = l.copied.items ≡ take l.load-index l.loads
