use Rattle.std.proofs.Common.{refl}
use Rattle.bus_phase.proofs.row.Row.put_at.Goals as goal

pub returns : goal.returns
returns c = rw (← c.self.view_is, c.fit.ensures) refl
