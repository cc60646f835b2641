use Rattle.bus_law_duties.proofs.Stays.{command-stays, answer-stays, silence-stays}
use Rattle.bus_law_duties.proofs.answers.only_the_memory_of_a_station_changes.Goals as goal

pub returns-clause-command : goal.returns-clause-command
returns-clause-command c = command-stays

pub returns-clause-answer : goal.returns-clause-answer
returns-clause-answer c = answer-stays

pub returns-clause-silence : goal.returns-clause-silence
returns-clause-silence c = silence-stays
