use Rattle.std.proofs.Common.{◌≡◌, suc, drop}
use Rattle.bus_load.specs.Load.{offer_in_frames}
use Rattle.bus_load.proofs.offers.offer_in_frames.Given as goal

abbrev pub invariant-loop-frame : goal.invariant-loop-frame
invariant-loop-frame l = (l.number ≡ l.frame-index)
    × (offer_in_frames l.station (suc l.number) (drop l.frame-index l.frames) ≡ offer_in_frames l.station 1 l.frames)
