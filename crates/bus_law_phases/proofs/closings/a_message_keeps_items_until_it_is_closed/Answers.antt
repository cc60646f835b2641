use Rattle.bus_law_phases.proofs.SilencedItems.{items-first, items-command, items-answer, items-silence}
use Rattle.bus_law_phases.proofs.closings.a_message_keeps_items_until_it_is_closed.Goals as goal

pub returns : goal.returns
returns _ = record { first = items-first; command = items-command; answer = items-answer; silence = items-silence }
