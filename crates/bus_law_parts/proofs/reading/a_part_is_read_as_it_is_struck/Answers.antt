use Rattle.bus_law_parts.proofs.PartSlots.{slot-read, slots-read}
use Rattle.bus_law_parts.proofs.reading.a_part_is_read_as_it_is_struck.Goals as goal

pub returns : goal.returns
returns c = record { slot = slot-read; slots = slots-read }
