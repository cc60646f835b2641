use Rattle.std.proofs.Common.{◌≡◌, drop}
use Rattle.std.specs.List.{list_any}
use Rattle.bus_model.specs.Strikes.{hits_on}
use Rattle.bus_model.specs.Transmissions.{cut_over}
use Rattle.bus_wire.proofs.strikes.cut_in.Given as goal

-- no cut so far ended it
abbrev pub invariant-loop-fault : goal.invariant-loop-fault
invariant-loop-fault l =
    list_any (cut_over l.place) (hits_on (drop l.fault-index l.faults) l.attempt l.part) ≡ list_any (cut_over l.place) (hits_on l.faults l.attempt l.part)
