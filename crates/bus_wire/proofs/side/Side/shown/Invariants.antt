use Rattle.std.proofs.Common.{◌≡◌, ◌≤◌, List, ◌∷◌, length, drop}
use Rattle.bus_base.specs.Samples.{other_of}
use Rattle.bus_base.specs.declared.samples.Drive.{Drive}
use Rattle.bus_model.specs.Wire.{samples_on}
use Rattle.bus_wire.specs.Newest.{newest, by_any}
use Rattle.bus_wire.specs.Sides.{SideStands}
use Rattle.bus_wire.proofs.OnLaws.{Joins, samples_from}
use Rattle.bus_wire.proofs.side.Side.shown.Given as goal

pub record Shown (l : goal.Live-loop-station) : Type 0 where
  pub few : l.on.drivers ≤ l.station
  -- what is shown of the stations so far, with those to come, shows all
  pub joins : (before : List (List Drive)) → SideStands l.faults l.channel l.self (l.drives ∷ before) → l.tick ≡ length before →
      l.other ≡ newest (by_any (other_of l.channel)) (l.drives ∷ before) →
      Joins l.on (samples_from l.faults l.channel l.drives before l.station (drop l.station l.drives)) (samples_on l.faults l.channel (l.drives ∷ before))

abbrev pub invariant-loop-station : goal.invariant-loop-station
invariant-loop-station l = Shown l
