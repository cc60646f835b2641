use Rattle.bus_recording.proofs.number.+tenth.Given as goal

-- the times that are left
abbrev pub decreases-tenth : goal.decreases-tenth
decreases-tenth l = l.times
