use Rattle.std.proofs.Common.{◌≡◌, drop, take}
use Rattle.std.specs.Prelude.{sum_by}
use Rattle.bus_load.specs.Load.{first_fits}
use Rattle.bus_load.proofs.fits.first_fits.Given as goal

abbrev pub invariant-loop-frame : goal.invariant-loop-frame
invariant-loop-frame l = (l.ticks ≡ sum_by (λ f. f.ticks) (take l.frame-index l.frames))
    × (first_fits l.ticks (drop l.frame-index l.frames) ≡ first_fits 0 l.frames)
