use Rattle.std.proofs.Common.{◌≡◌, ◌≤◌, ℕ, List, ◌∷◌, length, drop}
use Rattle.bus_base.specs.Samples.{other_of}
use Rattle.bus_base.specs.declared.samples.Drive.{Drive}
use Rattle.bus_model.specs.Wire.{samples_on}
use Rattle.bus_wire.specs.Newest.{newest, by_any}
use Rattle.bus_wire.specs.Places.{AreRising, AreSilentBeside}
use Rattle.bus_wire.specs.Sides.{SideStands}
use Rattle.bus_wire.proofs.OnLaws.{Joins, samples_from}
use Rattle.bus_wire.proofs.side.Side.driven_among.Given as goal

-- what is shown of the stations before one, with those to come, shows all; of those only the ones at the places to come may drive
pub record Shown (l : goal.Live-loop-place) : Type 0 where
  pub from : ℕ
  pub rising : AreRising from (length l.drives) (drop l.place-index l.places)
  pub silent : AreSilentBeside from (drop l.place-index l.places) l.drives
  pub few : l.on.drivers ≤ from
  pub joins : (before : List (List Drive)) → SideStands l.faults l.channel l.self (l.drives ∷ before) → l.tick ≡ length before →
      l.other ≡ newest (by_any (other_of l.channel)) (l.drives ∷ before) →
      Joins l.on (samples_from l.faults l.channel l.drives before from (drop from l.drives)) (samples_on l.faults l.channel (l.drives ∷ before))

abbrev pub invariant-loop-place : goal.invariant-loop-place
invariant-loop-place l = Shown l
