use Rattle.std.proofs.Common.{◌≡◌, drop}
use Rattle.bus_bridge.specs.Headers.{are_apart}
use Rattle.bus_bridge.proofs.pairings.are_apart.Given as goal

-- the pairings before the place are apart from all later ones
abbrev pub invariant-loop-place : goal.invariant-loop-place
invariant-loop-place l = are_apart (drop l.place l.pairs) ≡ are_apart l.pairs
