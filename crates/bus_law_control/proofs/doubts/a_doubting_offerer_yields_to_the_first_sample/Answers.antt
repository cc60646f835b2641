use Rattle.bus_law_control.proofs.Doubting.{doubt-yields}
use Rattle.bus_law_control.proofs.doubts.a_doubting_offerer_yields_to_the_first_sample.Goals as goal

pub returns : goal.returns
returns _ = λ k station starts takes past now begun x taken runs doubt late heard.
    doubt-yields k station starts takes past begun x taken runs doubt now late heard
