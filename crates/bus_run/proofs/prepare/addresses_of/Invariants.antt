use Rattle.std.proofs.Common.{◌≡◌, take, map}
use Rattle.bus_run.proofs.prepare.addresses_of.Given as goal

abbrev pub invariant-loop-station : goal.invariant-loop-station
invariant-loop-station l = l.addresses.items ≡ map (λ s. s.terminal.address) (take l.station-index l.stations)
