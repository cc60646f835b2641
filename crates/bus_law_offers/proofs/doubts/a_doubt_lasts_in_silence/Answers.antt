use Rattle.bus_law_offers.proofs.DoubtLasts.{doubt-lasts}
use Rattle.bus_law_offers.proofs.doubts.a_doubt_lasts_in_silence.Goals as goal

pub returns : goal.returns
returns c = doubt-lasts
