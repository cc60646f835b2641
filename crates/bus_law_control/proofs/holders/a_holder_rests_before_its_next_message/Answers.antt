use Rattle.bus_law_control.proofs.SilentHolder.{rests-silent}
use Rattle.bus_law_control.proofs.holders.a_holder_rests_before_its_next_message.Goals as goal

pub returns : goal.returns
returns _ = λ k station starts loads outside past ticks holds idle none later.
    rests-silent k station starts loads outside past holds idle ticks none later
