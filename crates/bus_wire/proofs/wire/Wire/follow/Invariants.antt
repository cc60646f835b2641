use Rattle.std.proofs.Common.{List}
use Rattle.bus_base.specs.declared.samples.Drive.{Drive}
use Rattle.bus_formats.specs.declared.fault.Fault.{Fault}
use Rattle.bus_wire.specs.WireStands.{WireStands, FollowsTo}
use Rattle.bus_wire.proofs.wire.Wire.follow.Given as goal

-- the stations so far are followed
abbrev pub invariant-loop-station : goal.invariant-loop-station
invariant-loop-station l = (faults : List Fault) (driven : List (List Drive)) → WireStands faults l.fn.self driven →
    FollowsTo faults driven l.drives l.station l.self
