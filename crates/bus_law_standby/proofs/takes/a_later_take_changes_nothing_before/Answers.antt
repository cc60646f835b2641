use Rattle.bus_law_standby.proofs.LaterTake.{alike-so-far, alike-rests}
use Rattle.bus_law_standby.proofs.takes.a_later_take_changes_nothing_before.Goals as goal

pub returns : goal.returns
returns _ = record { station = alike-so-far; rests = alike-rests }
