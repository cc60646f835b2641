use Rattle.std.proofs.Common.{◌≡◌, take}
use Rattle.bus_run.proofs.copies.copy_turns.Given as goal

abbrev pub invariant-loop-turn : goal.invariant-loop-turn
invariant-loop-turn l = l.copied.items ≡ take l.turn-index l.turns
