use Rattle.bus_law_phases.proofs.SilencedMoments.{closed-rested}
use Rattle.bus_law_phases.proofs.closings.a_closed_message_leaves_a_rest.Goals as goal

pub returns : goal.returns
returns _ w now place holder c e part afters before begun ended tick moment apart over =
    closed-rested w now place holder c e part afters moment apart before begun ended tick over
