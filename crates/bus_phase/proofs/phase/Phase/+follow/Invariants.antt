use Rattle.bus_phase.proofs.phase.Phase.+follow.Given as goal

-- the changes that are left
abbrev pub decreases-follow : goal.decreases-follow
decreases-follow l = l.most
