use Rattle.std.proofs.Common.{◌≡◌, take, filter_map}
use Rattle.bus_formats.specs.Readings.{datum_in}
use Rattle.bus_controller.proofs.attempt.data_words.Given as goal

-- the data words so far, as far as there is room
abbrev pub invariant-loop-slot : goal.invariant-loop-slot
invariant-loop-slot l = l.words ≡ take 32 (filter_map datum_in (take l.slot-index l.slots))
