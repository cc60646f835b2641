use Rattle.std.proofs.Common.{◌≡◌, drop, length}
use Rattle.bus_run.specs.Driven.{AreSilentBut}
use Rattle.bus_run.proofs.called.silence.Given as goal

-- only at the places to come may a drive not be silent
abbrev pub invariant-loop-place : goal.invariant-loop-place
invariant-loop-place l = AreSilentBut (drop l.place-index l.places) l.drives × (length l.drives ≡ length l.fn.drives)
