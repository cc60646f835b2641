use Rattle.std.proofs.Common.{◌≡◌, List, length}
use Rattle.bus_base.specs.declared.samples.Drive.{Drive}
use Rattle.bus_formats.specs.declared.fault.Fault.{Fault}
use Rattle.bus_wire.specs.WireStands.{WireStands}
use Rattle.bus_wire.proofs.tests.shown_in.Given as goal

-- the wire stands for the ticks so far
abbrev pub invariant-loop-now : goal.invariant-loop-now
invariant-loop-now l = (faults : List Fault) × (driven : List (List Drive)) × WireStands faults l.wire driven × (length driven ≡ l.now)
