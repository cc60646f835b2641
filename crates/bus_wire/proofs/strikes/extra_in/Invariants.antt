use Rattle.std.proofs.Common.{◌≡◌, drop}
use Rattle.bus_model.specs.Strikes.{hits_on}
use Rattle.bus_wire.specs.Steps.{first_extra}
use Rattle.bus_wire.proofs.strikes.extra_in.Given as goal

-- no fault so far is an extra of the part
abbrev pub invariant-loop-fault : goal.invariant-loop-fault
invariant-loop-fault l = first_extra (hits_on (drop l.fault-index l.faults) l.attempt l.part) ≡ first_extra (hits_on l.faults l.attempt l.part)
