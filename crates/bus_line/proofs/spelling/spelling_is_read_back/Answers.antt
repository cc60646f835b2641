use Rattle.bus_line.proofs.Spelled.{length-spelling}
use Rattle.bus_line.proofs.Heard.{heard-spelling}
use Rattle.bus_line.proofs.Guessed.{word_in-spelling}
use Rattle.bus_line.proofs.spelling.spelling_is_read_back.Goals as goal

pub returns : goal.returns
returns c = record { forty = length-spelling; heard = heard-spelling; back = word_in-spelling }
