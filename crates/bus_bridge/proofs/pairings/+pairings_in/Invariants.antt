use Rattle.bus_bridge.proofs.pairings.+pairings_in.Given as goal

abbrev pub decreases-pairings_in : goal.decreases-pairings_in
decreases-pairings_in l = l.most
