-- A burst as a terminal hears it on one channel, and the premises under which it alone counts.
use Rattle.std.specs.Prelude.{◌≡◌, ◌⊎◌, ℕ, ◌+◌, ◌<◌, ◌≤◌, Bool, true, false, List, [], ◌∷◌, ◌++◌, length, Option, Some, None}
use Rattle.bus_base.specs.Samples.{other_of}
use Rattle.bus_base.specs.declared.samples.Channel.{Channel}
use Rattle.bus_base.specs.declared.samples.Channel.TheVariants.{A, B}
use Rattle.bus_base.specs.declared.samples.Part.TheVariants.{First, Second}
use Rattle.bus_line.specs.Past.{Burst, rest_of, InLeg, runs, ended_now, slot_now}
use Rattle.bus_formats.specs.Plans.{TerminalData}
use Rattle.bus_formats.specs.Times.{relay_wait}
use Rattle.bus_model.specs.Memory.{TimedLoad, with_loads}
use Rattle.bus_model.specs.Orders.{Obeyed, Order, last_order, due_after, obey, keep_promise}
use Rattle.bus_model.specs.Hearing.{Moment, heard_on, is_addressed}
use Rattle.bus_model.specs.Standing.{Marks, mark_on, Standing, ignored_from, is_owed, is_promise}
use Rattle.bus_model.specs.Terminal.{given_up}

-- one channel's mark is exchanged
abbrev pub set_mark : Marks → Channel → Option ℕ → Marks
set_mark marks A mark = record marks { a = mark }
set_mark marks B mark = record marks { b = mark }

-- s with the tick in which the last addressed slot ended on a channel, or with the first tick of a transmission there
abbrev pub with_addressed : Standing → Channel → Option ℕ → Standing
with_addressed s c mark = record s { addressed = set_mark s.addressed c mark }

abbrev pub with_sent : Standing → Channel → Option ℕ → Standing
with_sent s c mark = record s { sent = set_mark s.sent c mark }

-- what ends on a channel in the newest tick doesn't count: the terminal ignores the channel, or neither a slot nor a burst with a command
-- for it ends there
abbrev pub IsUnheeded : ℕ → TerminalData → Standing → Channel → List Moment → Type 0
IsUnheeded k terminal s c [] = Unit {0}
IsUnheeded k terminal s c (now ∷ past) =
    (ignored_from k (heard_on c past) (mark_on s.sent c) ≡ true)
    ⊎ ((is_addressed terminal.address (slot_now k (heard_on c (now ∷ past))) ≡ false)
    × ((burst : Burst) → ended_now k (heard_on c (now ∷ past)) ≡ Some burst → last_order terminal.address burst.slots ≡ None))

-- nor in any of these ticks, which follow those heard
abbrev pub AreUnheeded : ℕ → TerminalData → Standing → Channel → List Moment → List Moment → Type 0
AreUnheeded k terminal s c heard [] = Unit {0}
AreUnheeded k terminal s c heard (now ∷ later) =
    IsUnheeded k terminal s c (now ∷ (later ++ heard)) × AreUnheeded k terminal s c heard later

-- after the ticks heard, of which s stands, come ticks of one burst on a channel, the newest first, whose end isn't known in them
pub record HearsBurst (k : ℕ) (terminal : TerminalData) (s : Standing) (c : Channel) (heard ticks : List Moment) : Type 0 where
  -- no burst ran there before
  pub rests : runs k (heard_on c heard) ≡ false
  -- one runs from the first of these ticks on
  pub leg : InLeg k (heard_on c ticks)
  -- and on the other channel nothing counts
  pub beside : AreUnheeded k terminal s (other_of c) heard ticks

-- a terminal is ready to hear it
pub record IsReady (k : ℕ) (terminal : TerminalData) (s : Standing) (c : Channel) (heard : List Moment) : Type 0 where
  -- it doesn't ignore the channel
  pub hears : ignored_from k (heard_on c heard) (mark_on s.sent c) ≡ false
  -- an answer that it owes was due before
  pub answer : is_owed s.duty ≡ true → due_after terminal s.end < length heard
  -- a promise that it made is for a burst on this channel that begins by now
  pub promise : is_promise s.duty ≡ true → (s.channel ≡ c) × (s.end ≤ length heard) × (length heard ≤ s.end + relay_wait)

-- a terminal begins to answer on the channel
pub record BeginsAnswer (k : ℕ) (terminal : TerminalData) (s : Standing) (c : Channel) (heard : List Moment) : Type 0 where
  -- it owes an answer there, which is due in the tick to come
  pub owes : is_owed s.duty ≡ true
  pub channel : s.channel ≡ c
  pub due : due_after terminal s.end ≡ length heard
  -- and which it hasn't given up
  pub kept : given_up k terminal (heard_on c heard) s ≡ false

-- what a terminal, of which s stands, makes in this tick of the last command of a burst; the loads of earlier ticks come before it
abbrev pub obeyed_in : TerminalData → List TimedLoad → ℕ → Standing → Channel → Order → ℕ → Bool → Obeyed
obeyed_in terminal loads tick s c order rest may =
    obey terminal (with_loads terminal.address tick loads s.memory) c order.command order.tail rest may

-- likewise of a burst that settles the promise of this command, to this transmitter
abbrev pub settled_in : TerminalData → List TimedLoad → ℕ → Standing → Channel → ℕ → ℕ → Burst → Obeyed
settled_in terminal loads tick s c command transmitter burst =
    keep_promise terminal (with_loads terminal.address tick loads s.memory) c command transmitter burst.slots (rest_of burst)

-- what a command's burst with this end on a channel leaves, whose last slot for the terminal ended in this tick
abbrev pub after_command : Standing → Channel → ℕ → ℕ → Obeyed → Standing
after_command s c end slot_end o = record (with_addressed s c (Some slot_end)) { memory = o.memory; duty = o.duty; channel = c; end = end; part = First }

-- what a burst with this end leaves that settles the promise
abbrev pub after_promise : Standing → ℕ → Obeyed → Standing
after_promise s end o = record s { memory = o.memory; duty = o.duty; end = end; part = Second }
