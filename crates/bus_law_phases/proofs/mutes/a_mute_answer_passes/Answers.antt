use Rattle.bus_law_phases.proofs.MutePhase.{mute-passes}
use Rattle.bus_law_phases.proofs.mutes.a_mute_answer_passes.Goals as goal

pub returns : goal.returns
returns _ = mute-passes
