use Rattle.std.proofs.Common.{◌≡◌, length, drop}
use Rattle.bus_formats.specs.Readings.{data_in}
use Rattle.bus_formats.proofs.Data.{words_before}
use Rattle.bus_formats.proofs.reading.data_in.Given as goal

-- the words so far come before those of the slots that are left
abbrev pub invariant-loop-slot : goal.invariant-loop-slot
invariant-loop-slot l = record {
  read : data_in (length l.slots) l.slots ≡ words_before l.block (data_in (length (drop l.slot-index l.slots)) (drop l.slot-index l.slots));
  count : length l.block ≡ l.slot-index;
}
