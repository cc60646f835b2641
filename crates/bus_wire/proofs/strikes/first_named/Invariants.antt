use Rattle.std.proofs.Common.{◌≡◌, drop}
use Rattle.bus_model.specs.Strikes.{hits_on}
use Rattle.bus_wire.proofs.strikes.first_named.Given as goal

-- no fault so far is named
abbrev pub invariant-loop-place : goal.invariant-loop-place
invariant-loop-place l = hits_on (drop l.place l.faults) l.attempt l.part ≡ hits_on l.faults l.attempt l.part
