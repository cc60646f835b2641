-- What a station heard of a command, from what its terminal heard.
use Rattle.std.proofs.Common.{◌≡◌, ℕ, ◌+◌, Bool, true, List, ◌++◌, length, Some, None, sym, ap, ◌∙◌, subst}
use Rattle.bus_base.specs.declared.samples.Channel.{Channel}
use Rattle.bus_base.specs.declared.samples.Pair.{Pair}
use Rattle.bus_base.specs.declared.samples.Part.TheVariants.{First}
use Rattle.bus_line.specs.Past.{Burst, end_of, rest_of}
use Rattle.bus_formats.specs.Plans.{StationData}
use Rattle.bus_model.specs.Memory.{TimedLoad}
use Rattle.bus_model.specs.Hearing.{Moment, Hearing}
use Rattle.bus_model.specs.Orders.{Obeyed, Order, last_order, due_after}
use Rattle.bus_model.specs.Standing.{Standing, is_owed}
use Rattle.bus_model.specs.Starts.{has_items}
use Rattle.bus_model.specs.Terminal.{standing, standing_after, took_now}
use Rattle.bus_model.specs.Course.{Course}
use Rattle.bus_model.specs.Control.{OutsideTake, course_after, hearing_after}
use Rattle.bus_law_stations.specs.Legs.{BeginsAnswer, obeyed_in, after_command}
use Rattle.bus_law_stations.specs.Silence.{quiet_moments}
use Rattle.bus_law_stations.specs.Turns.{moments_of}
use Rattle.bus_law_messages.specs.Ends.{HeardCommand}

module _ (k : ℕ) (station : StationData) (loads : List TimedLoad) (c : Channel) (burst : Burst) where
  -- by what was heard before the command, the course of the controller, and what was heard with the tick in which its end is known
  abbrev pub ObeysIt : Hearing → Course → Hearing → Type 0
  ObeysIt h course later =
      (order : Order) → last_order station.terminal.address burst.slots ≡ Some order →
      let s : Standing = standing_after k station.terminal loads h in
      let o : Obeyed = obeyed_in station.terminal loads (end_of burst + k) s c order (rest_of burst) (has_items course.left) in
      (slot_end : ℕ) × (standing_after k station.terminal loads later ≡ after_command s c (end_of burst) slot_end o)
      × (took_now k station.terminal loads later ≡ o.taken)

  abbrev pub AnswersIt : Hearing → Course → Hearing → Type 0
  AnswersIt h course hears =
      (order : Order) → last_order station.terminal.address burst.slots ≡ Some order → (mays : List Bool) →
      let o : Obeyed = obeyed_in station.terminal loads (end_of burst + k) (standing_after k station.terminal loads h) c order (rest_of burst)
      (has_items course.left) in
      let later : List Moment = quiet_moments mays ++ hears.ticks in
      length later ≡ due_after station.terminal (end_of burst) → is_owed o.duty ≡ true →
      BeginsAnswer k station.terminal (standing k station.terminal loads hears.memory later) c later
      × ((standing k station.terminal loads hears.memory later).duty ≡ o.duty)
      × ((standing k station.terminal loads hears.memory later).part ≡ First)

  abbrev pub PassesIt : Hearing → Hearing → Type 0
  PassesIt h later =
      last_order station.terminal.address burst.slots ≡ None →
      (standing_after k station.terminal loads later ≡ standing_after k station.terminal loads h) × (took_now k station.terminal loads later ≡ None)

  pub heard-from : (starts : Bool) (outside : List OutsideTake) (past ticks : List Pair) (h later : Hearing) (course : Course) →
      hearing_after k station starts loads outside past ≡ h → course_after k station starts loads outside past ≡ course →
      hearing_after k station starts loads outside (ticks ++ past) ≡ later → course_after k station starts loads outside (ticks ++ past) ≡ course →
      later ≡ record { memory = h.memory; ticks = moments_of course ticks ++ h.ticks } → ObeysIt h course later → AnswersIt h course later →
      PassesIt h later → HeardCommand k station starts loads outside past ticks c burst
  heard-from starts outside past ticks h later course before same after still hears obeyed due passed = record {
    hears = after ∙ hears ∙ ap (λ (x : Hearing). record { memory = x.memory; ticks = moments_of course ticks ++ x.ticks }) (sym before)
        ∙ ap (λ (d : Course). record {
          memory = (hearing_after k station starts loads outside past).memory;
          ticks = moments_of d ticks ++ (hearing_after k station starts loads outside past).ticks;
        }) (sym same);
    course = still ∙ sym same;
    obeyed = subst (λ x. ObeysIt x (course_after k station starts loads outside past) (hearing_after k station starts loads outside (ticks ++ past)))
        (sym before) (subst (λ d. ObeysIt h d (hearing_after k station starts loads outside (ticks ++ past))) (sym same)
        (subst (ObeysIt h course) (sym after) obeyed));
    due = subst (λ x. AnswersIt x (course_after k station starts loads outside past) (hearing_after k station starts loads outside (ticks ++ past)))
        (sym before) (subst (λ d. AnswersIt h d (hearing_after k station starts loads outside (ticks ++ past))) (sym same)
        (subst (AnswersIt h course) (sym after) due));
    passed = subst (λ x. PassesIt x (hearing_after k station starts loads outside (ticks ++ past))) (sym before) (subst (PassesIt h) (sym after) passed);
  }
