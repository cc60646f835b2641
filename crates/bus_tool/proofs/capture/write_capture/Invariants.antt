use Rattle.std.proofs.Common.{◌≤◌, ◌-◌, List, [], map, Option}
use Rattle.bus_formats.specs.Plans.{PlanData}
use Rattle.bus_formats.specs.declared.log.Delivery.{Delivery}
use Rattle.bus_run.specs.Deliveries.{Serves}
use Rattle.bus_run.specs.Stands.{BusStands}
use Rattle.bus_tool.specs.Captured.{Captures}
use Rattle.bus_tool.proofs.capture.write_capture.Given as goal

-- the lines that the ticks so far fill were written
abbrev pub invariant-ticks : goal.invariant-ticks
invariant-ticks g l = record {
  captures : (plan : PlanData) (before : List (Option (List Delivery))) → BusStands plan 0 l.fn.bus →
      Serves plan before []
      (map (λ b. (goal.Subsystem-dyn g (b.vtable, b.value)).told b.value) l.fn.subsystems.items)
      (map (λ b. (goal.Subsystem-dyn g (b.vtable, b.value)).spare b.value) l.fn.subsystems.items) →
      Captures plan (g.K.Sink.held l.fn.sink) (g.K.Sink.held l.sink) l.bus l.writer before
      (map (λ b. (goal.Subsystem-dyn g (b.vtable, b.value)).told b.value) l.subsystems.items)
      (map (λ b. (goal.Subsystem-dyn g (b.vtable, b.value)).spare b.value) l.subsystems.items);
  later : g.K.Sink.faults l.fn.sink ≤ g.K.Sink.faults l.sink;
}

-- each turn is one tick of the run, whose number has 32 bits
abbrev pub decreases-ticks : goal.decreases-ticks
decreases-ticks g l = 4294967295 - l.bus.ticks
