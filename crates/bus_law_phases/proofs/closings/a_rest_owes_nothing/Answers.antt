use Rattle.bus_law_phases.proofs.SilencedUnmoved.{rested-underway}
use Rattle.bus_law_phases.proofs.closings.a_rest_owes_nothing.Goals as goal

pub returns : goal.returns
returns _ = rested-underway
