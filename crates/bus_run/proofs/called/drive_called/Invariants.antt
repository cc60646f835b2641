use Rattle.std.proofs.Common.{◌≤◌, ℕ, take, drop, length}
use Rattle.arrayvec.specs.ArrayVec.{array_vec_len}
use Rattle.bus_wire.specs.Places.{AreRising}
use Rattle.bus_run.specs.Driven.{AreDriven, AreSilentBut}
use Rattle.bus_run.proofs.called.drive_called.Given as goal

-- the stations at the places so far drive, and those of them that drive a channel are known
pub record Drives (l : goal.Live-loop-place) : Type 0 where
  pub driven : AreDriven l.stations (take l.place-index l.places) l.drives
  pub from : ℕ
  pub rising : AreRising 0 from l.driving.items
  pub later : AreRising from (length l.stations) (drop l.place-index l.places)
  pub count : array_vec_len l.driving ≤ from
  pub others : AreSilentBut l.driving.items l.drives

abbrev pub invariant-loop-place : goal.invariant-loop-place
invariant-loop-place l = Drives l
