use Rattle.std.proofs.Common.{◌≡◌, drop}
use Rattle.bus_load.specs.Load.{frames_fit}
use Rattle.bus_load.proofs.fits.frames_fit.Given as goal

abbrev pub invariant-loop-place : goal.invariant-loop-place
invariant-loop-place l = frames_fit l.long (drop l.place l.frames) l.again ≡ frames_fit l.long l.frames l.again
