use Rattle.std.proofs.Common.{◌≤◌}
use Rattle.arrayvec.specs.ArrayVec.{array_vec_len}
use Rattle.bus_run.proofs.CalledLaws.{CalledBefore}
use Rattle.bus_run.proofs.called.places_called.Given as goal

-- of the stations before the place those are called that need it
abbrev pub invariant-loop-place : goal.invariant-loop-place
invariant-loop-place l = CalledBefore l.present l.stations l.place l.places.items × (array_vec_len l.places ≤ l.place)
