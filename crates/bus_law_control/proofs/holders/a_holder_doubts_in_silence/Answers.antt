use Rattle.bus_law_control.proofs.SilentHolder.{doubts-silent}
use Rattle.bus_law_control.proofs.holders.a_holder_doubts_in_silence.Goals as goal

pub returns : goal.returns
returns _ = λ k station starts loads outside past begun x n holds runs doubt still early.
    doubts-silent k station starts loads outside past holds begun runs x doubt still n early
