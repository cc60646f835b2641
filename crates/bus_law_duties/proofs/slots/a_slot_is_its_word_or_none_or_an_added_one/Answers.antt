use Rattle.bus_law_duties.proofs.Struck.{take-left, struck-left}
use Rattle.bus_law_duties.proofs.slots.a_slot_is_its_word_or_none_or_an_added_one.Goals as goal

pub returns-clause-all : goal.returns-clause-all
returns-clause-all c = struck-left

pub returns-clause-first : goal.returns-clause-first
returns-clause-first c = take-left
