use Rattle.bus_law_control.proofs.Holding.{heard-nothing}
use Rattle.bus_law_control.proofs.Keeping.{unheard-on, unheard-runs, unheard-rests}
use Rattle.bus_law_control.proofs.turns.a_holder_has_heard_nothing.Goals as goal

pub returns : goal.returns
returns c = record { heard = heard-nothing; quiet = unheard-on; runs = unheard-runs; rests = unheard-rests }
