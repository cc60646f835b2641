use Rattle.bus_law_phases.proofs.AnswerHolders.{rests-beside}
use Rattle.bus_law_phases.proofs.answers.a_station_that_rests_starts_nothing_beside_an_answer.Goals as goal

pub returns : goal.returns
returns c w past holder need channel burst rests = rests-beside w past holder need rests channel burst
