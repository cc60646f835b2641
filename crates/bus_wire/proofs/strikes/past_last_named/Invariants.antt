use Rattle.std.proofs.Common.{◌≡◌, ◌≤◌, take, length}
use Rattle.bus_model.specs.Strikes.{hits_on}
use Rattle.bus_wire.proofs.strikes.past_last_named.Given as goal

-- no fault from here on is named
abbrev pub invariant-loop-end : goal.invariant-loop-end
invariant-loop-end l = (l.end ≤ length l.faults) × (hits_on (take l.end l.faults) l.attempt l.part ≡ hits_on l.faults l.attempt l.part)

abbrev pub decreases-loop-end : goal.decreases-loop-end
decreases-loop-end l = l.end
