use Rattle.bus_wave.proofs.ReadBackLaws.{found-again}
use Rattle.bus_wave.proofs.laws.the_ticks_are_found_in_the_wave.Goals as goal

pub returns : goal.returns
returns c k past = found-again k past
