use Rattle.std.proofs.Common.{◌≡◌, take}
use Rattle.bus_controller.proofs.place.copy_of.Given as goal

-- it holds the turns so far
abbrev pub invariant-loop-turn : goal.invariant-loop-turn
invariant-loop-turn l = l.retry.items ≡ take l.turn-index l.turns
