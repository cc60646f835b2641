use Rattle.std.proofs.Common.{◌≡◌, drop}
use Rattle.bus_run.specs.Kept.{named_at}
use Rattle.bus_run.proofs.kept.named.Given as goal

-- the stations before the index have other addresses
abbrev pub invariant-loop-station : goal.invariant-loop-station
invariant-loop-station l = named_at l.address l.stations ≡ named_at l.address (drop l.station-index l.stations)
