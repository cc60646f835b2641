use Rattle.bus_law_phases.proofs.AnswerKept.{kept-first, kept-relayed}
use Rattle.bus_law_phases.proofs.answers.an_answer_that_might_be_abandoned_is_read.Goals as goal

pub returns-clause-first : goal.returns-clause-first
returns-clause-first c w past holder begun e part answer ending awaits begins never waits =
    kept-first w past holder begun e part answer awaits begins never waits ending

pub returns-clause-relayed : goal.returns-clause-relayed
returns-clause-relayed c w past holder begun e part answer shape status awaits begins never waits =
    kept-relayed w past holder begun e part answer awaits begins never waits shape status
