use Rattle.bus_model.proofs.ShownWords.{flip-stays, fade-stays, cut-stays, extra-stays}
use Rattle.bus_model.proofs.strikes.an_unstruck_word_stays.Goals as goal

pub returns : goal.returns
returns c = record { flipped = flip-stays; faded = fade-stays; cut = cut-stays; extra = extra-stays }
