-- A station that holds control over some ticks.
use Rattle.std.specs.Prelude.{◌≡◌, ℕ, Bool, true, List, [], ◌∷◌, ◌++◌}
use Rattle.bus_base.specs.declared.samples.Pair.{Pair}
use Rattle.bus_formats.specs.Plans.{StationData}
use Rattle.bus_model.specs.Memory.{TimedLoad}
use Rattle.bus_model.specs.Control.{OutsideTake, course_with, so_far}

module _ (k : ℕ) (station : StationData) (starts : Bool) (loads : List TimedLoad) (outside : List OutsideTake) (past : List Pair) where
  -- its controller holds control before, in and after these ticks, which follow those of past
  abbrev pub HoldsThrough : List Pair → Type 0
  HoldsThrough [] = (course_with k station starts loads outside (so_far k station starts loads outside past).takes past).holds ≡ true
  HoldsThrough (shown ∷ ticks) =
      ((course_with k station starts loads outside (so_far k station starts loads outside past).takes (shown ∷ (ticks ++ past))).holds ≡ true)
      × HoldsThrough ticks
