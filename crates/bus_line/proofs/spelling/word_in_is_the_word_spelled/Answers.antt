use Rattle.std.proofs.Common.{sym, None}
use Rattle.bus_line.proofs.Guessed.{word_in-some, word_in-none, word_in-spells, word_in-read}
use Rattle.bus_line.proofs.spelling.word_in_is_the_word_spelled.Goals as goal

pub returns : goal.returns
returns c = record {
  some = λ s w. (word_in-some s w, word_in-spells s w);
  none = λ s. (word_in-none s, λ h. sym (word_in-read s None h));
}
