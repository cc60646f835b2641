use Rattle.std.proofs.Common.{[]}
use Rattle.bus_run.proofs.DataLaws.{for-data}
use Rattle.bus_run.proofs.laws.a_delivery_is_for_data.Goals as goal

pub returns : goal.returns
returns c station starts past = for-data station starts [] [] past
