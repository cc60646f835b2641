use Rattle.bus_survey.proofs.LineLaws.{reported-name}
use Rattle.bus_survey.proofs.laws.items_are_counted_by_the_names_of_reports.Goals as goal

pub returns : goal.returns
returns c = reported-name
