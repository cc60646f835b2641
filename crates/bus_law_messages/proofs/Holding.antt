-- A station in control while it sends the command of a message: it keeps control, and its controller's samples are what it drives.
use Rattle.std.proofs.Common.{◌≡◌, ℕ, ◌+◌, ◌≤◌, Bool, true, false, List, [], ◌∷◌, ◌++◌, length, ap, ◌∙◌, arith, length-append}
use Rattle.bus_base.specs.declared.samples.Pair.{Pair}
use Rattle.bus_base.specs.declared.samples.Part.TheVariants.{Command}
use Rattle.bus_formats.specs.Forms.{command_words}
use Rattle.bus_formats.specs.Plans.{StationData}
use Rattle.bus_model.specs.Memory.{TimedLoad}
use Rattle.bus_model.specs.Sending.{drive_sample}
use Rattle.bus_model.specs.Starts.{Entry}
use Rattle.bus_model.specs.Attempts.{Begun}
use Rattle.bus_model.specs.Course.{Course, course}
use Rattle.bus_model.specs.Control.{OutsideTake, yielded_in, so_far, course_after, drives_next}
use Rattle.bus_law_stations.specs.Messages.{BeginsMessage, message_begun, ShowsBurst}
use Rattle.bus_law_stations.specs.Turns.{KeepsControl}
use Rattle.bus_law_stations.proofs.Commanding.{command-runs, command-sends}
use Rattle.bus_law_stations.proofs.StillStation.{always-taken}
use Rattle.bus_law_stations.proofs.Turning.{holding-course, holding-sends}
use Rattle.bus_law_messages.specs.Settled.{InControl}

module _ (k : ℕ) (station : StationData) (starts : Bool) (loads : List TimedLoad) (outside : List OutsideTake) (past : List Pair) (entry : Entry)
    (controls : InControl (course_after k station starts loads outside past) (length past))
    (begins : BeginsMessage (course_after k station starts loads outside past) past entry) where
  abbrev begun : Begun
  begun = message_begun (course_after k station starts loads outside past) entry (length past)

  -- its course in these ticks
  abbrev pub later_course : List Pair → Course
  later_course ticks = course k station starts (so_far k station starts loads outside past).takes (ticks ++ past)

  pub still-holds : (ticks : List Pair) → ShowsBurst k begun.state.channel past ticks → (later_course ticks).holds ≡ true
  still-holds [] shows = controls.holds
  still-holds (first ∷ ticks) shows =
      ap (λ (c : Course). c.holds)
      (command-runs k station starts (so_far k station starts loads outside past).takes past entry (always-taken k station starts loads outside past) begins
      ticks first shows)
      ∙ controls.holds

  yields-not : (ticks : List Pair) (first : Pair) (tick : ℕ) → length past ≤ tick → ShowsBurst k begun.state.channel past (first ∷ ticks) →
      yielded_in tick (later_course (first ∷ ticks)).ended ≡ false
  yields-not ticks first tick late shows =
      ap (λ (c : Course). yielded_in tick c.ended)
      (command-runs k station starts (so_far k station starts loads outside past).takes past entry (always-taken k station starts loads outside past) begins
      ticks first shows)
      ∙ controls.before tick late

  pub keeps-control : (ticks : List Pair) → ShowsBurst k begun.state.channel past ticks → KeepsControl k station starts loads outside past ticks
  keeps-control [] shows = tt
  keeps-control (first ∷ ticks) shows =
      let less : ShowsBurst k begun.state.channel past ticks = record { rests = shows.rests; leg = shows.leg.2 } in
      let long : length (ticks ++ past) ≡ length ticks + length past = length-append ticks past in (
        still-holds ticks less,
        yields-not ticks first (length (ticks ++ past)) (omega (arith, long)) shows,
        keeps-control ticks less,
      )

  pub holder-sends : (ticks : List Pair) → ShowsBurst k begun.state.channel past ticks →
      drives_next k station starts loads outside (ticks ++ past)
      ≡ drive_sample begun.state.channel Command (command_words entry.item.kind) (length ticks)
  holder-sends ticks shows =
      let keeps = keeps-control ticks shows in
      holding-sends k station starts loads outside past ticks keeps
      (ap (λ (c : Course). c.holds) (holding-course k station starts loads outside past ticks keeps) ∙ still-holds ticks shows)
      ∙ command-sends k station starts (so_far k station starts loads outside past).takes past entry (always-taken k station starts loads outside past) begins
      ticks shows
