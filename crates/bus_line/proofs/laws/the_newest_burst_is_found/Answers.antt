use Rattle.bus_line.proofs.BurstLaws.{newest-burst, runs-burst, burst-runs}
use Rattle.bus_line.proofs.laws.the_newest_burst_is_found.Goals as goal

pub returns : goal.returns
returns c = record { newest = newest-burst; runs = λ k past. (runs-burst k past, λ w. burst-runs k past w.0 w.1 w.2 w.3) }
