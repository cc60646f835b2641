use Rattle.std.proofs.Common.{◌-◌, ℕ, List, [], map, Option}
use Rattle.bus_line.specs.declared.cutter.TheConstants.{LAG}
use Rattle.bus_formats.specs.Plans.{PlanData}
use Rattle.bus_formats.specs.declared.log.Delivery.{Delivery}
use Rattle.bus_model.specs.World.{world}
use Rattle.bus_run.specs.Deliveries.{Serves}
use Rattle.bus_run.specs.Stands.{BusStands}
use Rattle.bus_run.proofs.bus.Bus.finish.Given as goal

-- so many ticks were run
abbrev pub invariant-ticks : goal.invariant-ticks
invariant-ticks g l =
    (plan : PlanData) (t : ℕ) (before : List (Option (List Delivery))) → BusStands plan t l.fn.self →
    Serves plan before (world LAG plan [] [] [] t) (map (λ b. (goal.Subsystem-dyn g (b.vtable, b.value)).told b.value) l.fn.subsystems.items)
    (map (λ b. (goal.Subsystem-dyn g (b.vtable, b.value)).spare b.value) l.fn.subsystems.items) →
    (u : ℕ) × BusStands plan u l.self
    × Serves plan before (world LAG plan [] [] [] u) (map (λ b. (goal.Subsystem-dyn g (b.vtable, b.value)).told b.value) l.subsystems.items)
    (map (λ b. (goal.Subsystem-dyn g (b.vtable, b.value)).spare b.value) l.subsystems.items)

-- no run has more ticks than 32 bits hold
abbrev pub decreases-ticks : goal.decreases-ticks
decreases-ticks g l = 4294967295 - l.self.ticks
