use Rattle.bus_receiver.proofs.Rests.{both-for-all}
use Rattle.bus_receiver.proofs.laws.cutters_at_rest_stand_for_all_at_rest.Goals as goal

pub returns : goal.returns
returns _ = both-for-all
