use Rattle.bus_recording.proofs.number.+tenfold.Given as goal

-- the times that are left
abbrev pub decreases-tenfold : goal.decreases-tenfold
decreases-tenfold l = l.times
