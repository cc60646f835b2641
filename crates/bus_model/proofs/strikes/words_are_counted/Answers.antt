use Rattle.bus_model.proofs.CountedWords.{cut-counted, extra-counted, data-counted}
use Rattle.bus_model.proofs.strikes.words_are_counted.Goals as goal

pub returns : goal.returns
returns c = record { cut = cut-counted; extra = extra-counted; read = data-counted }
