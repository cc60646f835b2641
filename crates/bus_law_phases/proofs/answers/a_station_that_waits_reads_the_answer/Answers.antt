use Rattle.bus_law_phases.proofs.AnswerHolders.{first-beside, second-beside, relayed-beside}
use Rattle.bus_law_phases.proofs.answers.a_station_that_waits_reads_the_answer.Goals as goal

pub returns-clause-first : goal.returns-clause-first
returns-clause-first c w past holder begun e burst ending awaits = first-beside w past holder begun e awaits burst ending

pub returns-clause-relayed : goal.returns-clause-relayed
returns-clause-relayed c w past holder begun e burst shape status awaits = relayed-beside w past holder begun e awaits burst shape status

pub returns-clause-second : goal.returns-clause-second
returns-clause-second c w past holder begun e burst ending awaits = second-beside w past holder begun e awaits burst ending
