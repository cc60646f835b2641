-- A message of a controller: it begins, its command is sent, and its answers are read.
use Rattle.std.specs.Prelude.{◌≡◌, ℕ, ◌+◌, ◌≤◌, true, false, List, ◌∷◌, length, Some, None}
use Rattle.bus_base.specs.declared.samples.Channel.{Channel}
use Rattle.bus_base.specs.declared.samples.Pair.{Pair}
use Rattle.bus_line.specs.Past.{InLeg, runs}
use Rattle.bus_line.specs.Channels.{on_channel}
use Rattle.bus_formats.specs.Times.{no_response}
use Rattle.bus_model.specs.Starts.{Entry, start_of, state_of}
use Rattle.bus_model.specs.Attempts.{Begun}
use Rattle.bus_model.specs.Course.{Course, quiet_from}

-- a controller begins its next message in the tick to come: c is its course, after what the channels showed
pub record BeginsMessage (c : Course) (past : List Pair) (entry : Entry) : Type 0 where
  -- it holds control, and no message runs
  pub holds : c.holds ≡ true
  pub idle : c.runs ≡ None
  -- the entry is the next of its items, and starts now
  pub later : List Entry
  pub left : c.left ≡ entry ∷ later
  pub starts : start_of c.opening c.retry c.origin entry (quiet_from past) ≡ length past

-- the message that begins
abbrev pub message_begun : Course → Entry → ℕ → Begun
message_begun c entry tick = record { entry = entry; state = state_of c.opening c.retry entry c.live; start = tick }

-- c with a message that runs
abbrev pub with_running : Course → Begun → Course
with_running c begun = record c { runs = Some begun }

-- after what the channels showed come ticks of one burst on a channel, the newest first, whose end isn't known in them
pub record ShowsBurst (k : ℕ) (channel : Channel) (past ticks : List Pair) : Type 0 where
  -- no burst ran there before
  pub rests : runs k (on_channel channel past) ≡ false
  -- one runs from the first of these ticks on
  pub leg : InLeg k (on_channel channel ticks)

-- a message that runs, to a burst that ended in tick e, is answered from the tick to come on
pub record IsAnswered (begun : Begun) (c : Course) (past : List Pair) (e : ℕ) : Type 0 where
  -- it is the one that runs
  pub runs : c.runs ≡ Some begun
  -- the answer begins in time
  pub prompt : length past ≤ e + no_response
  -- and isn't abandoned
  pub kept : begun.entry.item.abandon ≡ None
