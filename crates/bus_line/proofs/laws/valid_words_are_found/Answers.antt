use Rattle.bus_line.proofs.ValidLaws.{valid-agree}
use Rattle.bus_line.proofs.laws.valid_words_are_found.Goals as goal

pub returns : goal.returns
returns c = valid-agree
