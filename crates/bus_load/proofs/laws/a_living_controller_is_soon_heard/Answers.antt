use Rattle.bus_load.proofs.Continued.{always-of}
use Rattle.bus_load.proofs.laws.a_living_controller_is_soon_heard.Goals as goal

pub returns : goal.returns
returns _ = always-of
