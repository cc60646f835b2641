use Rattle.std.proofs.Common.{◌≡◌, drop}
use Rattle.bus_model.specs.Strikes.{hits_on}
use Rattle.bus_model.specs.Wire.{struck_sample}
use Rattle.bus_wire.proofs.strikes.struck.Given as goal

-- the later faults make of the sample so far what all make of the first
abbrev pub invariant-loop-fault : goal.invariant-loop-fault
invariant-loop-fault l =
    struck_sample l.place (hits_on (drop l.fault-index l.faults) l.attempt l.part) l.shown
    ≡ struck_sample l.place (hits_on l.faults l.attempt l.part) l.fn.sample
