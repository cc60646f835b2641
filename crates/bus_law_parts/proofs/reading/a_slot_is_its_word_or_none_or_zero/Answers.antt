use Rattle.bus_law_parts.proofs.StruckSlots.{struck-slot, few-slots, some-slots, unstruck-slots}
use Rattle.bus_law_parts.proofs.reading.a_slot_is_its_word_or_none_or_zero.Goals as goal

pub returns : goal.returns
returns c = record { slot = struck-slot; few = few-slots; some = some-slots; unstruck = unstruck-slots }
