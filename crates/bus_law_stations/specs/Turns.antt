-- What a station's terminal hears while the station serves, and while it holds control (dynamic bus control, MIL-STD-1553B 4.3.3.5.1.7.1).
use Rattle.std.specs.Prelude.{◌≡◌, ℕ, Bool, true, false, List, [], ◌∷◌, ◌++◌, length, None}
use Rattle.bus_base.specs.declared.samples.Pair.{Pair}
use Rattle.bus_formats.specs.Plans.{StationData}
use Rattle.bus_model.specs.Memory.{TimedLoad}
use Rattle.bus_model.specs.Hearing.{Moment}
use Rattle.bus_model.specs.Terminal.{accepted_now}
use Rattle.bus_model.specs.Course.{Course}
use Rattle.bus_model.specs.Control.{OutsideTake, StationSoFar, moment_of, yielded_in, outside_takes, course_with, so_far, course_after, hearing_after}

-- ticks as the terminal of a station with this course hears them
abbrev pub moments_of : Course → List Pair → List Moment
moments_of c [] = []
moments_of c (shown ∷ ticks) = moment_of shown c ∷ moments_of c ticks

-- a station whose terminal heard these moments more
abbrev pub with_moments : StationSoFar → List Moment → StationSoFar
with_moments before moments = record before { hearing = record before.hearing { ticks = moments ++ before.hearing.ticks } }

-- what is the same at every tick, and what the channels showed before the ticks that are looked at
module _ (k : ℕ) (station : StationData) (starts : Bool) (loads : List TimedLoad) (outside : List OutsideTake) (past : List Pair) where
  -- control is taken in none of these ticks: no answer that accepts it ends, and it isn't taken from outside
  abbrev pub TakesNothing : List Pair → Type 0
  TakesNothing [] = Unit {0}
  TakesNothing (shown ∷ ticks) =
      (accepted_now k station.terminal loads record {
        memory = (hearing_after k station starts loads outside past).memory;
        ticks = moments_of (course_after k station starts loads outside past) (shown ∷ ticks) ++ (hearing_after k station starts loads outside past).ticks;
      } ≡ None)
      × (outside_takes k station starts loads outside (length (ticks ++ past)) outside ≡ [])
      × TakesNothing ticks

  -- control is held in all of these ticks, and isn't yielded
  abbrev pub KeepsControl : List Pair → Type 0
  KeepsControl [] = Unit {0}
  KeepsControl (shown ∷ ticks) =
      ((course_with k station starts loads outside (so_far k station starts loads outside past).takes (ticks ++ past)).holds ≡ true)
      × (yielded_in (length (ticks ++ past))
      (course_with k station starts loads outside (so_far k station starts loads outside past).takes (shown ∷ (ticks ++ past))).ended ≡ false)
      × KeepsControl ticks

-- a station serves, and no message of its own runs
pub record Serves (c : Course) : Type 0 where
  pub serves : c.holds ≡ false
  pub idle : c.runs ≡ None
