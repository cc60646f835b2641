-- The end of a command: the quiet ticks in which it becomes known, and what the stations make of it then.
use Rattle.std.specs.Prelude.{◌≡◌, ◌≢◌, ℕ, suc, ◌+◌, ◌*◌, Bool, true, List, ◌++◌, length, slice_get, Some, None}
use Rattle.bus_base.specs.declared.samples.Channel.{Channel}
use Rattle.bus_base.specs.declared.samples.Drive.{Drive}
use Rattle.bus_base.specs.declared.samples.Pair.{Pair}
use Rattle.bus_base.specs.declared.samples.Part.TheVariants.{First}
use Rattle.bus_words.specs.declared.word.Word.{Word}
use Rattle.bus_line.specs.Past.{Burst, end_of, rest_of}
use Rattle.bus_line.specs.Channels.{on_channel}
use Rattle.bus_formats.specs.Forms.{answers_of, command_words}
use Rattle.bus_formats.specs.Plans.{StationData, PlanData}
use Rattle.bus_formats.specs.declared.fault.Hit.{Hit}
use Rattle.bus_formats.specs.declared.form.Outcome.TheVariants.{Sent}
use Rattle.bus_formats.specs.declared.form.Shape.{Shape}
use Rattle.bus_model.specs.Memory.{TimedLoad}
use Rattle.bus_model.specs.Orders.{Obeyed, Order, last_order, due_after}
use Rattle.bus_model.specs.Standing.{Standing, is_owed}
use Rattle.bus_model.specs.Hearing.{Moment, Hearing}
use Rattle.bus_model.specs.Terminal.{standing, standing_after, took_now}
use Rattle.bus_model.specs.Starts.{has_items, starts}
use Rattle.bus_model.specs.Attempts.{Begun, without_words}
use Rattle.bus_model.specs.Course.{close}
use Rattle.bus_model.specs.Control.{OutsideTake, course_after, hearing_after}
use Rattle.bus_model.specs.World.{Trace, is_present}
use Rattle.bus_law_line.specs.Shown.{slots_shown}
use Rattle.bus_law_stations.specs.Silence.{quiet_moments, AwaitsFirst}
use Rattle.bus_law_stations.specs.Legs.{BeginsAnswer, obeyed_in, after_command}
use Rattle.bus_law_stations.specs.Messages.{with_running}
use Rattle.bus_law_stations.specs.Turns.{moments_of}
use Rattle.bus_law_messages.specs.Commands.{command_sender, WordsEnd}

-- the burst that words make, sent from this tick on, as these hits strike them
abbrev pub burst_sent : ℕ → List Hit → List Word → Burst
burst_sent start hits words = record { first = start; ticks = 40 * length words; slots = slots_shown hits 0 words }

-- what the end of this burst on a channel leaves of a serving station: ticks are those of the burst, with the k + 1 quiet ones after it
pub record HeardCommand (k : ℕ) (station : StationData) (starts : Bool) (loads : List TimedLoad) (outside : List OutsideTake) (past ticks : List Pair)
    (c : Channel) (burst : Burst) : Type 0 where
  -- its terminal heard these ticks
  pub hears : hearing_after k station starts loads outside (ticks ++ past) ≡ record {
    memory = (hearing_after k station starts loads outside past).memory;
    ticks = moments_of (course_after k station starts loads outside past) ticks ++ (hearing_after k station starts loads outside past).ticks;
  }
  -- its controller is as it was
  pub course : course_after k station starts loads outside (ticks ++ past) ≡ course_after k station starts loads outside past
  -- the last command in the burst that is for its terminal is obeyed, with the slots after it, k ticks after the end
  pub obeyed : (order : Order) → last_order station.terminal.address burst.slots ≡ Some order →
      let s : Standing = standing_after k station.terminal loads (hearing_after k station starts loads outside past) in
      let o : Obeyed = obeyed_in station.terminal loads (end_of burst + k) s c order (rest_of burst)
      (has_items (course_after k station starts loads outside past).left) in
      (slot_end : ℕ)
      × (standing_after k station.terminal loads (hearing_after k station starts loads outside (ticks ++ past)) ≡ after_command s c (end_of burst) slot_end o)
      × (took_now k station.terminal loads (hearing_after k station starts loads outside (ticks ++ past)) ≡ o.taken)
  -- an answer that this leaves begins when it is due, after quiet ticks, as the first one of the message
  pub due : (order : Order) → last_order station.terminal.address burst.slots ≡ Some order → (mays : List Bool) →
      let o : Obeyed = obeyed_in station.terminal loads (end_of burst + k)
      (standing_after k station.terminal loads (hearing_after k station starts loads outside past)) c order (rest_of burst)
      (has_items (course_after k station starts loads outside past).left) in
      let h : Hearing = hearing_after k station starts loads outside (ticks ++ past) in
      let later : List Moment = quiet_moments mays ++ h.ticks in
      length later ≡ due_after station.terminal (end_of burst) → is_owed o.duty ≡ true →
      BeginsAnswer k station.terminal (standing k station.terminal loads h.memory later) c later
      × ((standing k station.terminal loads h.memory later).duty ≡ o.duty) × ((standing k station.terminal loads h.memory later).part ≡ First)
  -- and without one nothing changes
  pub passed : last_order station.terminal.address burst.slots ≡ None →
      (standing_after k station.terminal loads (hearing_after k station starts loads outside (ticks ++ past))
      ≡ standing_after k station.terminal loads (hearing_after k station starts loads outside past))
      × (took_now k station.terminal loads (hearing_after k station starts loads outside (ticks ++ past)) ≡ None)

-- what it leaves of the station in control, whose message this is
pub record SentCommand (k : ℕ) (station : StationData) (starts : Bool) (loads : List TimedLoad) (outside : List OutsideTake) (past ticks : List Pair)
    (begun : Begun) (burst : Burst) : Type 0 where
  -- a message without an answer ends Sent
  pub sent : (answers_of begun.entry.item.kind).first ≡ None → course_after k station starts loads outside (ticks ++ past)
      ≡ close (course_after k station starts loads outside past) begun (without_words Sent None None) (end_of burst + k)
  -- another runs, and waits for its first answer
  pub waits : (shape : Shape) → (answers_of begun.entry.item.kind).first ≡ Some shape →
      (course_after k station starts loads outside (ticks ++ past) ≡ with_running (course_after k station starts loads outside past) begun)
      × AwaitsFirst k begun (on_channel begun.state.channel (ticks ++ past)) (end_of burst)

-- the command of a message, its end known, as the world shows it and each station heard it: in 40 ticks a word, and k + 1 more
pub record CommandOver (k : ℕ) (plan : PlanData) (loads : List TimedLoad) (outside : List OutsideTake) (absent : List ℕ) (before : Trace) (place : ℕ)
    (holder : StationData) (begun : Begun) (hits : List Hit) (ticks : List Pair) (sent silent : List (List Drive)) : Type 0 where
  -- the station in control sent it alone, and nobody drove a channel after it
  pub ends : WordsEnd k plan loads outside absent before (command_sender place begun) hits
      (40 * length (command_words begun.entry.item.kind) + suc k) (suc k) ticks sent silent
  -- the station in control ended the message, or waits for its answer
  pub controls : SentCommand k holder (starts plan holder) loads outside before.shown ticks begun
      (burst_sent begun.start hits (command_words begun.entry.item.kind))
  -- and every other one obeyed what it heard, or passed over it
  pub others : (other : ℕ) (station : StationData) → slice_get plan.stations other ≡ Some station → other ≢ place → is_present absent station ≡ true →
      HeardCommand k station (starts plan station) loads outside before.shown ticks begun.state.channel
      (burst_sent begun.start hits (command_words begun.entry.item.kind))
