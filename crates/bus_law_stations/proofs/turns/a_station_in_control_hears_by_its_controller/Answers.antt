use Rattle.bus_law_stations.proofs.Turning.{holding-hears, holding-course, holding-sends}
use Rattle.bus_law_stations.proofs.turns.a_station_in_control_hears_by_its_controller.Goals as goal

pub returns : goal.returns
returns _ = record { hears = holding-hears; course = holding-course; sends = holding-sends }
