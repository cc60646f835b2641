use Rattle.std.proofs.Common.{◌≡◌, drop}
use Rattle.bus_bridge.specs.Worlds.{is_paired}
use Rattle.bus_bridge.proofs.handing.is_paired.Given as goal

abbrev pub invariant-loop-pairing : goal.invariant-loop-pairing
invariant-loop-pairing l = is_paired (drop l.pairing-index l.pairs) l.sub ≡ is_paired l.pairs l.sub
