use Rattle.std.proofs.Common.{◌∙◌, arith, None, take, filter_map}
use Rattle.bus_formats.specs.Readings.{datum_in}
use Rattle.bus_controller.proofs.Words.{keeps-at, take-few}
use Rattle.bus_controller.proofs.attempt.data_words.Goals as goal

pub keep_word-requires : goal.keep_word-requires
keep_word-requires c = rw c.loop-slot.invariant (take-few 32 (filter_map datum_in (take c.loop-slot.slot-index c.args.slots.now)))

pub loop-slot-preserved : goal.loop-slot-preserved
loop-slot-preserved c = c.keep_word.ensures ∙ keeps-at datum_in 32 c.args.slots.now c.loop-slot.slot-index None c.loop-slot.words (omega arith) c.loop-slot.invariant
