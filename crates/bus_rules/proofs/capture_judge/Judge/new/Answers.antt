use Rattle.std.proofs.Common.{refl, arith}
use Rattle.bus_rules.specs.Breaches.{known}
use Rattle.bus_rules.proofs.capture_judge.Judge.new.Goals as goal

pub returns : goal.returns
unfolding known
returns c = record { a = c.new.ensures; b = c.new-2.ensures; ticks = refl; overlap = refl; breaches = refl; few = omega arith }
