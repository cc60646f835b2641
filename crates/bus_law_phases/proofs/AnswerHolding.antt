-- A station that keeps control over ticks of some sort, of which fewer are of that sort too, while nothing changes of its controller.
use Rattle.std.proofs.Common.{◌≡◌, ◌+◌, true, List, [], ◌∷◌, ◌++◌, length, ap, ◌∙◌, subst, arith, length-append}
use Rattle.bus_base.specs.declared.samples.Drive.TheVariants.{Silent}
use Rattle.bus_base.specs.declared.samples.Pair.{Pair}
use Rattle.bus_formats.specs.Plans.{StationData}
use Rattle.bus_model.specs.Course.{Take, Course, course, drive_course}
use Rattle.bus_model.specs.Control.{StationSoFar, yielded_in, so_far, drives_next}
use Rattle.bus_model.specs.Starts.{starts}
use Rattle.bus_law_control.proofs.Holding.{yielded-before, kept-tick}
use Rattle.bus_law_stations.specs.Silence.{AreTaken}
use Rattle.bus_law_stations.specs.Turns.{KeepsControl}
use Rattle.bus_law_stations.proofs.StillStation.{always-taken}
use Rattle.bus_law_stations.proofs.Turning.{holding-hears, holding-course, holding-sends}
use Rattle.bus_law_phases.specs.Scenarios.{Scenario, course_of}

module _ (w : Scenario) (past : List Pair) (holder : StationData) (Q : List Pair → Type 0)
    (fewer : (x : Pair) (ticks : List Pair) → Q (x ∷ ticks) → Q ticks) (holds : (course_of w holder past).holds ≡ true) where
  abbrev takes : List Take
  takes = (so_far w.lag holder (starts w.plan holder) w.loads w.outside past).takes

  abbrev own : List Pair → Course
  own shown = course w.lag holder (starts w.plan holder) takes shown

  module _ (still : (ticks : List Pair) → Q ticks → own (ticks ++ past) ≡ course_of w holder past) where
    keeps-on : (ticks : List Pair) → Q ticks → KeepsControl w.lag holder (starts w.plan holder) w.loads w.outside past ticks
    keeps-on [] alone = tt
    keeps-on (x ∷ ticks) alone =
        let less = fewer x ticks alone in
        let long : length (ticks ++ past) ≡ length ticks + length past = length-append ticks past in (
          ap (λ (d : Course). d.holds) (still ticks less) ∙ holds,
          ap (λ (d : Course). yielded_in (length (ticks ++ past)) d.ended) (still (x ∷ ticks) alone)
              ∙ yielded-before w.lag holder (starts w.plan holder) takes past (length (ticks ++ past)) (omega (arith, long)),
          keeps-on ticks less,
        )

    pub same-on : (ticks : List Pair) → Q ticks → course_of w holder (ticks ++ past) ≡ course_of w holder past
    same-on ticks alone =
        holding-course w.lag holder (starts w.plan holder) w.loads w.outside past ticks (keeps-on ticks alone) ∙ still ticks alone

    pub silent-on : (ticks : List Pair) → Q ticks → drive_course w.lag (ticks ++ past) (own (ticks ++ past)) ≡ Silent →
        drives_next w.lag holder (starts w.plan holder) w.loads w.outside (ticks ++ past) ≡ Silent
    silent-on ticks alone quiet =
        holding-sends w.lag holder (starts w.plan holder) w.loads w.outside past ticks (keeps-on ticks alone)
        (ap (λ (d : Course). d.holds) (same-on ticks alone) ∙ holds)
        ∙ quiet

    -- with one tick more
    pub ends-on : (x : Pair) (ticks : List Pair) → Q ticks → (later : Course) → own (x ∷ (ticks ++ past)) ≡ later → later.holds ≡ true →
        course_of w holder (x ∷ (ticks ++ past)) ≡ later
    ends-on x ticks alone later is kept =
        let keeps = keeps-on ticks alone in
        let same : (so_far w.lag holder (starts w.plan holder) w.loads w.outside (ticks ++ past)).takes ≡ takes =
        ap (λ (so : StationSoFar). so.takes) (holding-hears w.lag holder (starts w.plan holder) w.loads w.outside past ticks keeps) in
        let taken : AreTaken (length (ticks ++ past)) takes =
        subst (AreTaken (length (ticks ++ past))) same (always-taken w.lag holder (starts w.plan holder) w.loads w.outside (ticks ++ past)) in
        holding-course w.lag holder (starts w.plan holder) w.loads w.outside past (x ∷ ticks) (
          ap (λ (d : Course). d.holds) (still ticks alone) ∙ holds,
          kept-tick w.lag holder (starts w.plan holder) takes x (ticks ++ past) taken (ap (λ (d : Course). d.holds) is ∙ kept),
          keeps,
        )
        ∙ is
