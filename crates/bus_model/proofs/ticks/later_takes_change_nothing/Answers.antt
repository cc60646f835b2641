use Rattle.bus_model.proofs.LaterTakes.{course-later}
use Rattle.bus_model.proofs.ticks.later_takes_change_nothing.Goals as goal

pub returns : goal.returns
returns c = λ k station starts takes take past h. course-later k station starts take takes past h
