use Rattle.bus_station.proofs.Waits.{station-silent}
use Rattle.bus_station.proofs.waiting.a_station_that_waits_is_silent.Goals as goal

pub returns : goal.returns
returns c = λ plan starts loads outside value past waits st. station-silent plan starts loads outside value past waits st
