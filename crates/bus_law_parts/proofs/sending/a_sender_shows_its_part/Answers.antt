use Rattle.bus_law_parts.proofs.SentParts.{part-shown-now, part-drivers, part-shown}
use Rattle.bus_law_parts.proofs.sending.a_sender_shows_its_part.Goals as goal

pub returns : goal.returns
returns c = record { now = part-shown-now; alone = part-drivers; shown = part-shown }
