use Rattle.bus_wire.proofs.SideLaws.{unsent-side}
use Rattle.bus_wire.proofs.side.Side.new.Goals as goal

pub returns : goal.returns
returns c = unsent-side c.new.result c.new.ensures
