use Rattle.bus_law_whole.proofs.Leaving.{left-rests}
use Rattle.bus_law_whole.proofs.Uncontrolled.{lasts-uncontrolled}
use Rattle.bus_law_whole.proofs.changes.the_others_rest_where_the_station_in_control_leaves.Goals as goal

pub returns : goal.returns
returns _ = record { left = left-rests; lasts = lasts-uncontrolled }
