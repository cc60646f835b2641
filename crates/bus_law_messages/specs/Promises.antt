-- A terminal that may have promised to take the next burst, as a relay's receiver, and what the end of that burst leaves of it.
use Rattle.std.specs.Prelude.{◌≡◌, ℕ, ◌+◌, ◌≤◌, Bool, true, false, List, ◌++◌, length, Some, None}
use Rattle.bus_base.specs.Samples.{other_of}
use Rattle.bus_base.specs.declared.samples.Channel.{Channel}
use Rattle.bus_base.specs.declared.samples.Pair.{Pair}
use Rattle.bus_base.specs.declared.samples.Part.{Part}
use Rattle.bus_base.specs.declared.samples.Part.TheVariants.{First, Second}
use Rattle.bus_words.specs.declared.word.Word.{Word}
use Rattle.bus_line.specs.Past.{Burst, end_of, rest_of, runs}
use Rattle.bus_formats.specs.Plans.{TerminalData, StationData}
use Rattle.bus_formats.specs.Times.{relay_wait}
use Rattle.bus_model.specs.Memory.{TimedLoad}
use Rattle.bus_model.specs.Orders.{Obeyed, Order, owes, promises, last_order, due_after}
use Rattle.bus_model.specs.Hearing.{Moment, Hearing, heard_on}
use Rattle.bus_model.specs.Standing.{mark_on, Standing, superseded, ignored_from, is_owed, is_promise}
use Rattle.bus_model.specs.Terminal.{is_over, standing, standing_after, took_now}
use Rattle.bus_model.specs.Starts.{has_items}
use Rattle.bus_model.specs.Control.{OutsideTake, course_after, hearing_after}
use Rattle.bus_law_stations.specs.Silence.{quiet_moments}
use Rattle.bus_law_stations.specs.Legs.{BeginsAnswer, obeyed_in, settled_in, after_command, after_promise}
use Rattle.bus_law_stations.specs.Turns.{Serves, moments_of}

-- a terminal is free, or promises to take a burst on this channel that begins in the tick to come: s stands of it, after the ticks that it heard
pub record IsListening (k : ℕ) (terminal : TerminalData) (s : Standing) (c : Channel) (heard : List Moment) : Type 0 where
  -- no burst runs on a channel as it heard it, and it ignores none
  pub rests : (d : Channel) → runs k (heard_on d heard) ≡ false
  pub heeds : (d : Channel) → ignored_from k (heard_on d heard) (mark_on s.sent d) ≡ false
  -- an answer that it owed is over
  pub over : is_owed s.duty ≡ true → is_over k terminal (heard_on s.channel heard) s ≡ true
  -- a promise is for a burst on this channel, and nothing took it back
  pub promise : is_promise s.duty ≡ true → (s.channel ≡ c) × (s.end ≤ length heard) × (length heard ≤ s.end + relay_wait)
  pub stands : is_promise s.duty ≡ true → superseded k s ≡ false

-- a station serves, and its terminal listens
pub record Listens (k : ℕ) (station : StationData) (starts : Bool) (loads : List TimedLoad) (outside : List OutsideTake) (past : List Pair)
    (c : Channel) : Type 0 where
  pub serves : Serves (course_after k station starts loads outside past)
  pub listens : IsListening k station.terminal (standing_after k station.terminal loads (hearing_after k station starts loads outside past)) c
      (hearing_after k station starts loads outside past).ticks

-- what the end of this burst on a channel leaves of a listening station: ticks are those of the burst, with the k + 1 quiet ones after it
pub record HeardBurst (k : ℕ) (station : StationData) (starts : Bool) (loads : List TimedLoad) (outside : List OutsideTake) (past ticks : List Pair)
    (c : Channel) (burst : Burst) : Type 0 where
  -- its terminal heard these ticks
  pub hears : hearing_after k station starts loads outside (ticks ++ past) ≡ record {
    memory = (hearing_after k station starts loads outside past).memory;
    ticks = moments_of (course_after k station starts loads outside past) ticks ++ (hearing_after k station starts loads outside past).ticks;
  }
  -- its controller is as it was
  pub course : course_after k station starts loads outside (ticks ++ past) ≡ course_after k station starts loads outside past
  -- the last command in the burst that is for its terminal is obeyed, with the slots after it, k ticks after the end
  pub obeyed : (order : Order) → last_order station.terminal.address burst.slots ≡ Some order →
      let s : Standing = standing_after k station.terminal loads (hearing_after k station starts loads outside past) in
      let o : Obeyed = obeyed_in station.terminal loads (end_of burst + k) s c order (rest_of burst)
      (has_items (course_after k station starts loads outside past).left) in
      (slot_end : ℕ)
      × (standing_after k station.terminal loads (hearing_after k station starts loads outside (ticks ++ past)) ≡ after_command s c (end_of burst) slot_end o)
      × (took_now k station.terminal loads (hearing_after k station starts loads outside (ticks ++ past)) ≡ o.taken)
  -- an answer that this leaves begins when it is due, after quiet ticks, as the first one of the message
  pub due : (order : Order) → last_order station.terminal.address burst.slots ≡ Some order → (mays : List Bool) →
      let o : Obeyed = obeyed_in station.terminal loads (end_of burst + k)
      (standing_after k station.terminal loads (hearing_after k station starts loads outside past)) c order (rest_of burst)
      (has_items (course_after k station starts loads outside past).left) in
      let h : Hearing = hearing_after k station starts loads outside (ticks ++ past) in
      let later : List Moment = quiet_moments mays ++ h.ticks in
      length later ≡ due_after station.terminal (end_of burst) → is_owed o.duty ≡ true →
      BeginsAnswer k station.terminal (standing k station.terminal loads h.memory later) c later
      × ((standing k station.terminal loads h.memory later).duty ≡ o.duty) × ((standing k station.terminal loads h.memory later).part ≡ First)
  -- without one the burst settles the promise that was made
  pub settled : (command transmitter : ℕ) → last_order station.terminal.address burst.slots ≡ None →
      let s : Standing = standing_after k station.terminal loads (hearing_after k station starts loads outside past) in
      let o : Obeyed = settled_in station.terminal loads (end_of burst + k) s c command transmitter burst in
      s.duty ≡ promises command transmitter →
      (standing_after k station.terminal loads (hearing_after k station starts loads outside (ticks ++ past)) ≡ after_promise s (end_of burst) o)
      × (took_now k station.terminal loads (hearing_after k station starts loads outside (ticks ++ past)) ≡ o.taken)
  -- and the answer that this leaves begins when it is due, as the second one
  pub settled_due : (command transmitter : ℕ) → last_order station.terminal.address burst.slots ≡ None → (mays : List Bool) →
      let s : Standing = standing_after k station.terminal loads (hearing_after k station starts loads outside past) in
      let o : Obeyed = settled_in station.terminal loads (end_of burst + k) s c command transmitter burst in
      let h : Hearing = hearing_after k station starts loads outside (ticks ++ past) in
      let later : List Moment = quiet_moments mays ++ h.ticks in
      s.duty ≡ promises command transmitter → length later ≡ due_after station.terminal (end_of burst) → is_owed o.duty ≡ true →
      BeginsAnswer k station.terminal (standing k station.terminal loads h.memory later) c later
      × ((standing k station.terminal loads h.memory later).duty ≡ o.duty) × ((standing k station.terminal loads h.memory later).part ≡ Second)
  -- without either nothing changes
  pub passed : last_order station.terminal.address burst.slots ≡ None →
      is_promise (standing_after k station.terminal loads (hearing_after k station starts loads outside past)).duty ≡ false →
      (standing_after k station.terminal loads (hearing_after k station starts loads outside (ticks ++ past))
      ≡ standing_after k station.terminal loads (hearing_after k station starts loads outside past))
      × (took_now k station.terminal loads (hearing_after k station starts loads outside (ticks ++ past)) ≡ None)

-- a serving station begins to answer on a channel with these words, which accept no control, as this part of a message
pub record IsReplying (k : ℕ) (station : StationData) (starts : Bool) (loads : List TimedLoad) (outside : List OutsideTake) (past : List Pair)
    (c : Channel) (part : Part) (words : List Word) : Type 0 where
  pub serves : Serves (course_after k station starts loads outside past)
  -- the answer is due in the tick to come
  pub begins : BeginsAnswer k station.terminal (standing_after k station.terminal loads (hearing_after k station starts loads outside past)) c
      (hearing_after k station starts loads outside past).ticks
  pub duty : (standing_after k station.terminal loads (hearing_after k station starts loads outside past)).duty ≡ owes words false
  pub part_is : (standing_after k station.terminal loads (hearing_after k station starts loads outside past)).part ≡ part
  -- no burst runs on a channel as its terminal heard it, and it doesn't ignore the other one
  pub rests : (d : Channel) → runs k (heard_on d (hearing_after k station starts loads outside past).ticks) ≡ false
  pub heeds : ignored_from k (heard_on (other_of c) (hearing_after k station starts loads outside past).ticks)
      (mark_on (standing_after k station.terminal loads (hearing_after k station starts loads outside past)).sent (other_of c)) ≡ false
