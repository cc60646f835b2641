use Rattle.std.proofs.Common.{ℕ, List, length, drop}
use Rattle.bus_base.specs.declared.samples.Drive.{Drive}
use Rattle.bus_formats.specs.declared.fault.Fault.{Fault}
use Rattle.bus_wire.specs.Places.{AreRising, AreSilentBeside}
use Rattle.bus_wire.specs.WireStands.{WireStands, FollowsTo}
use Rattle.bus_wire.proofs.wire.Wire.follow_among.Given as goal

-- the stations before one are followed, and of those from it on only the ones at the places to come may drive
abbrev pub invariant-loop-place : goal.invariant-loop-place
invariant-loop-place l =
    (from : ℕ) × AreRising from (length l.drives) (drop l.place-index l.places) × AreSilentBeside from (drop l.place-index l.places) l.drives
    × ((faults : List Fault) (driven : List (List Drive)) → WireStands faults l.fn.self driven → FollowsTo faults driven l.drives from l.self)
