use Rattle.std.proofs.Common.{◌≡◌, take, map}
use Rattle.bus_run.specs.Kept.{object_at}
use Rattle.bus_run.proofs.prepare.objects_of.Given as goal

-- those of the stations before the index
abbrev pub invariant-loop-station : goal.invariant-loop-station
invariant-loop-station l = l.objects.items ≡ map (object_at l.named) (take l.station-index l.stations)
