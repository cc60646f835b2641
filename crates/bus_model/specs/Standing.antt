-- What stands of a terminal after the ticks that it heard: what it keeps, what its last order left, and what takes that back
-- (MIL-STD-1553B 4.4.3.2). Where a burst ends is known k ticks later.
use Rattle.std.specs.Prelude.{ℕ, ◌+◌, Bool, true, false, not, ◌&&◌, ◌||◌, ◌==◌, nat_lt, nat_le, List, Option, Some, None, is_none}
use Rattle.bus_base.specs.Samples.{other_of, same_channel}
use Rattle.bus_base.specs.declared.samples.Channel.{Channel}
use Rattle.bus_base.specs.declared.samples.Channel.TheVariants.{A, B}
use Rattle.bus_base.specs.declared.samples.Sample.{Sample}
use Rattle.bus_base.specs.declared.samples.Part.{Part}
use Rattle.bus_base.specs.declared.samples.Part.TheVariants as parts
use Rattle.bus_words.specs.declared.word.Word.{Word}
use Rattle.bus_line.specs.Past.{end_since}
use Rattle.bus_model.specs.Memory.{Memory}
use Rattle.bus_model.specs.Orders.{Duty, free, owes, promises, Order}

-- a tick for each channel, if any
pub record Marks : Type 0 where
  pub a : Option ℕ
  pub b : Option ℕ

abbrev pub mark_on : Marks → Channel → Option ℕ
mark_on marks A = marks.a
mark_on marks B = marks.b

-- what a terminal keeps after its orders so far; the last order: its channel, the end of its burst, what it left, and as which part
-- of a message that is answered; for each channel the first tick of the terminal's last transmission, and the tick in which the
-- last addressed slot ended
pub record Standing : Type 0 where
  pub memory : Memory
  pub channel : Channel
  pub end : ℕ
  pub duty : Duty
  pub part : Part
  pub sent : Marks
  pub addressed : Marks

abbrev pub no_marks : Marks
no_marks = record { a = None; b = None }

abbrev pub at_rest : Memory → Standing
at_rest memory =
    record { memory = memory; channel = A; end = 0; duty = free; part = parts.First; sent = no_marks; addressed = no_marks }

-- what is handled in a tick: a command on a channel is obeyed, with the burst's end, the slots after it and the rest; the
-- promise that stands is settled by a burst with this end, these slots and this rest; or that promise runs out
pub data Handled : Type 0 where
  obeys : Channel → ℕ → Order → ℕ → Handled
  settles : ℕ → List (Option Word) → ℕ → Handled
  runs_out : Handled

-- ---- what takes back an order

-- a mark is from this tick on
abbrev pub is_from : ℕ → Option ℕ → Bool
is_from tick None = false
is_from tick (Some marked) = nat_le tick marked

-- a valid command on the other channel, newer than the last order, takes back what that left: its slot ended after the order was
-- handled, which is k ticks after the end of its burst (4.4.3.2)
abbrev pub superseded : ℕ → Standing → Bool
superseded k s = is_from (s.end + k) (mark_on s.addressed (other_of s.channel))

-- an addressed slot on the other channel is newer than the last one on this: it ended later, or in the same tick on A
abbrev pub is_newer : Channel → Option ℕ → Option ℕ → Bool
is_newer other None this = false
is_newer other (Some tick) None = true
is_newer other (Some tick) (Some own) = nat_lt own tick || ((own == tick) && same_channel other A)

-- an order on this channel would be older than a command on the other
abbrev pub outrun : Standing → Channel → Bool
outrun s c = is_newer (other_of c) (mark_on s.addressed (other_of c)) (mark_on s.addressed c)

-- a channel is ignored from the first tick of the terminal's own transmission there to k + 1 quiet ticks in a row after it:
-- whether it is in the tick to come
abbrev pub ignored_from : ℕ → List Sample → Option ℕ → Bool
ignored_from k past None = false
ignored_from k past (Some first) = is_none (end_since k past first)

-- ---- what is owed and promised

abbrev pub is_owed : Duty → Bool
is_owed (owes words acceptance) = true
is_owed _ = false

abbrev pub is_promise : Duty → Bool
is_promise (promises command transmitter) = true
is_promise _ = false

-- a promise that stands is for a burst on its channel
abbrev pub promised_on : ℕ → Standing → Channel → Bool
promised_on k s c = is_promise s.duty && same_channel s.channel c && not (superseded k s)
