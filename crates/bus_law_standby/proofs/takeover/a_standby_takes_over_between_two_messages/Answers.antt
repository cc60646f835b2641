use Rattle.bus_law_standby.proofs.StandbyTakes.{taken-over, standby-takes}
use Rattle.bus_law_standby.proofs.takeover.a_standby_takes_over_between_two_messages.Goals as goal

pub returns : goal.returns
returns _ = record { leaves = standby-takes; silent = taken-over }
