use Rattle.std.proofs.Common.{◌≡◌, ◌≤◌, length, take}
use Rattle.std.specs.Prelude.{flat_map, option_to_list}
use Rattle.bus_formats.specs.Readings.{datum_in}
use Rattle.bus_table.proofs.notes.words_in.Given as goal

-- the data words in the slots before the index
abbrev pub invariant-loop-slot : goal.invariant-loop-slot
invariant-loop-slot l = record {
  words : l.words ≡ flat_map (λ slot. option_to_list (datum_in slot)) (take l.slot-index l.slots);
  few : length l.words ≤ l.slot-index;
}
