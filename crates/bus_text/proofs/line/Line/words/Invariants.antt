use Rattle.std.proofs.Common.{◌≡◌, ◌+◌, ◌*◌, ◌++◌, length, take}
use Rattle.bus_text.specs.Texts.{words as words_text}
use Rattle.bus_text.proofs.line.Line.words.Given as goal

-- the words before the index stand after what the line had, five bytes each
abbrev pub invariant-loop-word : goal.invariant-loop-word
invariant-loop-word l = record {
  text : l.self ≡ l.initial.self ++ words_text (take l.word-index l.words);
  grows : length l.self ≡ length l.initial.self + 5 * l.word-index;
}
