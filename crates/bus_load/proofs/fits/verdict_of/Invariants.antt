use Rattle.std.proofs.Common.{◌≡◌, drop}
use Rattle.std.specs.Prelude.{find}
use Rattle.bus_model.specs.Starts.{starts}
use Rattle.bus_load.proofs.fits.verdict_of.Given as goal

abbrev pub invariant-loop-station : goal.invariant-loop-station
invariant-loop-station l = find (starts l.plan) (drop l.station-index l.plan.stations) ≡ find (starts l.plan) l.plan.stations
