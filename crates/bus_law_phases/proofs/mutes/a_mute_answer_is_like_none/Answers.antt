use Rattle.bus_law_phases.proofs.MuteDuties.{due-early, silence-answered}
use Rattle.bus_law_phases.proofs.mutes.a_mute_answer_is_like_none.Goals as goal

pub returns : goal.returns
returns _ = record { early = due-early; settled = silence-answered }
