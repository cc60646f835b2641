use Rattle.std.proofs.Common.{◌≡◌, drop}
use Rattle.bus_bridge.specs.Headers.{sends_from}
use Rattle.bus_bridge.proofs.pairings.sends_from.Given as goal

abbrev pub invariant-loop-pairing : goal.invariant-loop-pairing
invariant-loop-pairing l = sends_from l.to (drop l.pairing-index l.pairs) ≡ sends_from l.to l.pairs
