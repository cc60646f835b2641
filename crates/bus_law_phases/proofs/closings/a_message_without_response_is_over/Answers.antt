use Rattle.bus_law_phases.proofs.SilencedOver.{unanswered-over, silence-stations}
use Rattle.bus_law_phases.proofs.closings.a_message_without_response_is_over.Goals as goal

pub returns : goal.returns
returns _ = record { over = unanswered-over; unpromised = silence-stations }
