use Rattle.bus_law_control.proofs.SilentHolder.{kept-then, hears-then, course-then}
use Rattle.bus_law_control.proofs.holders.a_holder_closes_its_message_unheard.Goals as goal

pub returns : goal.returns
returns _ = λ k station starts loads outside past ticks x d holds stays is kept. (
  kept-then k station starts loads outside past ticks holds stays x d is kept,
  hears-then k station starts loads outside past ticks holds stays x d is kept,
  course-then k station starts loads outside past ticks holds stays x d is kept,
)
