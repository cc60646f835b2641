use Rattle.bus_law_ticks.proofs.Unanswered.{first-unanswered, second-unanswered}
use Rattle.bus_law_ticks.proofs.replies.a_message_without_a_response_ends_after_25_quiet_ticks.Goals as goal

pub returns : goal.returns
returns c = record { first = first-unanswered; second = second-unanswered }
