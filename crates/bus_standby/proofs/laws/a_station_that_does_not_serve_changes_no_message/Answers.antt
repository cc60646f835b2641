use Rattle.bus_standby.proofs.Unserving.{message-so}
use Rattle.bus_standby.proofs.laws.a_station_that_does_not_serve_changes_no_message.Goals as goal

pub returns : goal.returns
returns _ = λ k loads faults n item on channel start stations address silent. message-so address k loads faults n item on channel start stations silent
