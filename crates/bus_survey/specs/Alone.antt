-- A plan in which one fault alone strikes (the project's own).
use Rattle.std.specs.Prelude.{[], ◌∷◌}
use Rattle.bus_formats.specs.Plans.{PlanData}
use Rattle.bus_formats.specs.declared.fault.Fault.{Fault}

-- the same stations and start, and no fault but this one
abbrev pub with_fault_alone : PlanData → Fault → PlanData
with_fault_alone plan fault = record plan { faults = fault ∷ [] }
