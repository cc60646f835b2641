use Rattle.bus_law_stations.proofs.SenderTicks.{sender-drives, sender-stands, sender-ends}
use Rattle.bus_law_stations.proofs.legs.a_sender_ignores_what_it_sends.Goals as goal

pub returns : goal.returns
returns c = record { sends = sender-drives; stands = sender-stands; ends = sender-ends }
