use Rattle.std.proofs.Common.{◌≡◌, ◌∷◌, map, take, length, ◌+◌}
use Rattle.bus_formats.specs.Forms.{command_word, data_word}
use Rattle.bus_orders.proofs.obeying.answer_words.Given as goal

-- the status word and the data words so far
abbrev pub invariant-loop-datum : goal.invariant-loop-datum
invariant-loop-datum l = record {
  words : l.words.items ≡ command_word l.fn.status ∷ map data_word (take l.datum-index l.data_words);
  count : length l.words.items ≡ l.datum-index + 1;
}
