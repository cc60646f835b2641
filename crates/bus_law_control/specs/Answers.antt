-- An answer of which nothing is shown, and one that is sent on beside another burst (MIL-STD-1553B 4.4.3.2).
use Rattle.std.specs.Prelude.{◌≡◌, ℕ, ◌<◌, true, false, List, length}
use Rattle.bus_base.specs.Samples.{other_of}
use Rattle.bus_base.specs.declared.samples.Channel.{Channel}
use Rattle.bus_base.specs.declared.samples.Channel.TheVariants.{A, B}
use Rattle.bus_line.specs.Past.{quiet_ticks, runs}
use Rattle.bus_formats.specs.Plans.{TerminalData}
use Rattle.bus_model.specs.Orders.{due_after}
use Rattle.bus_model.specs.Hearing.{Moment, heard_on}
use Rattle.bus_model.specs.Standing.{Standing, is_owed, is_promise}
use Rattle.bus_law_stations.specs.Legs.{AreUnheeded}

-- after the ticks heard, of which s stands, a channel stays quiet in these ticks, the newest first
pub record HearsQuiet (k : ℕ) (terminal : TerminalData) (s : Standing) (c : Channel) (heard ticks : List Moment) : Type 0 where
  -- no burst ran there before
  pub rests : runs k (heard_on c heard) ≡ false
  -- nothing is heard there
  pub quiet : heard_on c ticks ≡ quiet_ticks (length ticks)
  -- and on the other channel nothing counts
  pub beside : AreUnheeded k terminal s (other_of c) heard ticks

-- after the ticks heard, of which s stands, nothing counts for a terminal in these ticks, on either channel
pub record HeedsNothing (k : ℕ) (terminal : TerminalData) (s : Standing) (heard ticks : List Moment) : Type 0 where
  -- an answer that it owes was due before, and it made no promise
  pub answer : is_owed s.duty ≡ true → due_after terminal s.end < length heard
  pub promise : is_promise s.duty ≡ false
  -- and neither a slot nor a burst counts on A, nor on B
  pub on_a : AreUnheeded k terminal s A heard ticks
  pub on_b : AreUnheeded k terminal s B heard ticks
