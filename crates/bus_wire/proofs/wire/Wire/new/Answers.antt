use Rattle.std.proofs.Common.{refl}
use Rattle.bus_wire.specs.WireStands.{WireStands}
use Rattle.bus_wire.proofs.WireLaws.{stands-new}
use Rattle.bus_wire.proofs.wire.Wire.new.Goals as goal

pub returns : goal.returns
unfolding WireStands
returns c =
    stands-new record { faults = c.args.faults; next = 0; commands = 0; a = c.new.result; b = c.new-2.result } refl refl c.new.ensures c.new-2.ensures
