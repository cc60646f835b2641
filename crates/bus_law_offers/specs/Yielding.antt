-- A station in doubt that yields with the first sample of a burst, and hears that burst from its first tick on (dynamic bus control, MIL-STD-1553B
-- 4.3.3.5.1.7.1; the doubt is the project's own).
use Rattle.std.specs.Prelude.{◌≡◌, List, ◌++◌, length, None}
use Rattle.bus_base.specs.declared.samples.Pair.{Pair}
use Rattle.bus_formats.specs.Plans.{StationData}
use Rattle.bus_formats.specs.declared.form.Outcome.TheVariants.{Yielded}
use Rattle.bus_model.specs.Attempts.{Begun, without_words}
use Rattle.bus_model.specs.Control.{so_far}
use Rattle.bus_model.specs.Course.{Course, close}
use Rattle.bus_model.specs.Starts.{starts}
use Rattle.bus_law_phases.specs.Scenarios.{Scenario, course_of}
use Rattle.bus_law_stations.specs.Turns.{moments_of, with_moments}

-- its course, once it yields in the tick to come
abbrev pub course_yielded : Scenario → List Pair → StationData → Begun → Course
course_yielded w past station begun = close (course_of w station past) begun (without_words Yielded None None) (length past)

-- with the first of these ticks, which follow those of past, it yielded, and its terminal heard them all
pub record HeardYielding (w : Scenario) (past : List Pair) (station : StationData) (begun : Begun) (ticks : List Pair) : Type 0 where
  pub so : so_far w.lag station (starts w.plan station) w.loads w.outside (ticks ++ past)
      ≡ with_moments (so_far w.lag station (starts w.plan station) w.loads w.outside past) (moments_of (course_yielded w past station begun) ticks)
  pub course : course_of w station (ticks ++ past) ≡ course_yielded w past station begun
