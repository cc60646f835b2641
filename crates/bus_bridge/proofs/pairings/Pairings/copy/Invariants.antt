use Rattle.std.proofs.Common.{◌≡◌, take}
use Rattle.bus_bridge.proofs.pairings.Pairings.copy.Given as goal

abbrev pub invariant-loop-pairing : goal.invariant-loop-pairing
invariant-loop-pairing l = l.held.items ≡ take l.pairing-index l.self
