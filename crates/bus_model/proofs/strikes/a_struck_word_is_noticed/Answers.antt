use Rattle.bus_model.proofs.CountedWords.{flip-spoils, fade-spoils}
use Rattle.bus_model.proofs.ShownWords.{flipped-none, faded-none}
use Rattle.bus_model.proofs.strikes.a_struck_word_is_noticed.Goals as goal

pub returns : goal.returns
returns c = record { flipped = flipped-none; faded = faded-none; table = λ n set word words. (flip-spoils n set word words, fade-spoils n set word words) }
