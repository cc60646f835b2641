use Rattle.bus_law_stations.proofs.Turning.{serving-hears, serving-same, serving-sends}
use Rattle.bus_law_stations.proofs.turns.a_serving_station_hears_by_its_terminal.Goals as goal

pub returns : goal.returns
returns _ = record {
  hears = λ k station starts loads outside past ticks serves nothing. serving-hears k station starts loads outside past ticks serves nothing;
  course = λ k station starts loads outside past ticks serves nothing. serving-same k station starts loads outside past ticks serves nothing;
  sends = λ k station starts loads outside past ticks serves nothing. serving-sends k station starts loads outside past ticks serves nothing;
}
