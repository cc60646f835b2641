-- A station in control over ticks in which nothing changes of it (dynamic bus control, MIL-STD-1553B 4.3.3.5.1.7.1).
use Rattle.std.specs.Prelude.{◌≡◌, ℕ, Bool, List, ◌++◌}
use Rattle.bus_base.specs.declared.samples.Drive.TheVariants.{Silent}
use Rattle.bus_base.specs.declared.samples.Pair.{Pair}
use Rattle.bus_formats.specs.Plans.{StationData}
use Rattle.bus_model.specs.Memory.{TimedLoad}
use Rattle.bus_model.specs.Control.{OutsideTake, so_far, course_after, drives_next, unheard_ticks}
use Rattle.bus_law_stations.specs.Turns.{with_moments, KeepsControl}

-- in these ticks, which follow those of past, it keeps control, its terminal hears nothing, its controller stays as it is, and it sends nothing
-- in the tick to come
pub record StaysSilent (k : ℕ) (station : StationData) (starts : Bool) (loads : List TimedLoad) (outside : List OutsideTake) (past ticks : List Pair) : Type 0 where
  pub keeps : KeepsControl k station starts loads outside past ticks
  pub hears : so_far k station starts loads outside (ticks ++ past)
      ≡ with_moments (so_far k station starts loads outside past) (unheard_ticks ticks)
  pub same : course_after k station starts loads outside (ticks ++ past) ≡ course_after k station starts loads outside past
  pub silent : drives_next k station starts loads outside (ticks ++ past) ≡ Silent
