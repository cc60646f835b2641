use Rattle.std.proofs.Common.{◌≤◌, ◌-◌, [], length}
use Rattle.std.specs.Prelude.{vec_len}
use Rattle.bus_run.specs.Driven.{AreSilentBut}
use Rattle.bus_run.proofs.prepare.places_for.Given as goal

abbrev pub invariant-places : goal.invariant-places
invariant-places l = (length l.places.items ≤ l.count) × AreSilentBut [] l.places.items

abbrev pub decreases-places : goal.decreases-places
decreases-places l = l.count - vec_len l.places
