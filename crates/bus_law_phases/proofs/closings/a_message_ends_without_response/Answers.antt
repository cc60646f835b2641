use Rattle.bus_law_phases.proofs.SilencedEnd.{without-response}
use Rattle.bus_law_phases.proofs.closings.a_message_ends_without_response.Goals as goal

pub returns : goal.returns
returns _ w t place holder c e part afters begun moment awaits at lasts stays =
    without-response w t place holder c e part afters begun moment awaits at lasts stays
