-- A remote terminal over all that it heard: which orders there were, what it keeps, and what it sends (MIL-STD-1553B 4.4.3).
use Rattle.std.specs.Prelude.{ℕ, ◌+◌, ◌-◌, suc, Bool, true, not, ◌&&◌, ◌||◌, ◌==◌, nat_lt, nat_le, if◌then◌else◌, List, [], ◌∷◌, length, Option, Some, None, is_some}
use Rattle.std.specs.Option.{option_or}
use Rattle.bus_base.specs.Samples.{sample_on, same_channel}
use Rattle.bus_base.specs.declared.samples.Channel.{Channel}
use Rattle.bus_base.specs.declared.samples.Channel.TheVariants.{A, B}
use Rattle.bus_base.specs.declared.samples.Sample.{Sample}
use Rattle.bus_base.specs.declared.samples.Part.TheVariants as parts
use Rattle.bus_base.specs.declared.samples.Drive.{Drive}
use Rattle.bus_base.specs.declared.samples.Drive.TheVariants.{Silent}
use Rattle.bus_words.specs.declared.word.Word.{Word}
use Rattle.bus_line.specs.Past.{Burst, ended_now, slot_now, end_of, rest_of, heard_within, end_since}
use Rattle.bus_formats.specs.Plans.{TerminalData}
use Rattle.bus_formats.specs.Times.{relay_wait}
use Rattle.bus_model.specs.Memory.{Memory, TimedLoad, with_loads}
use Rattle.bus_model.specs.Orders.{Duty, owes, promises, Taken, Obeyed, Order, last_order, due_after, obey, keep_promise, unkept}
use Rattle.bus_model.specs.Sending.{drive_sample}
use Rattle.bus_model.specs.Hearing.{Moment, Hearing, heard_on, is_addressed}
use Rattle.bus_model.specs.Standing.{mark_on, Standing, at_rest, Handled, obeys, settles, runs_out, superseded, outrun, ignored_from, is_owed, promised_on}

-- the first answer of a message is to its command, the second one keeps a promise
abbrev pub after_order : Standing → Handled → Obeyed → Standing
after_order s (obeys c end order rest) o =
    record s { memory = o.memory; duty = o.duty; channel = c; end = end; part = parts.First }
after_order s (settles end slots rest) o = record s { memory = o.memory; duty = o.duty; end = end; part = parts.Second }
after_order s runs_out o = record s { memory = o.memory; duty = o.duty }

-- the end of an answer that was due in this tick, where the burst that ended is that answer, and as long as a status word at least
abbrev pub heard_status : ℕ → Option Burst → Option ℕ
heard_status due None = None
heard_status due (Some burst) = if (burst.first == due) && nat_le 40 burst.ticks then Some (end_of burst) else None

module _ (k : ℕ) (terminal : TerminalData) where
  -- an answer is given up: superseded, or the channel wasn't quiet before it was due
  abbrev pub given_up : List Sample → Standing → Bool
  given_up past s = superseded k s || heard_within past s.end (due_after terminal s.end)

  -- it is over: its channel was quiet for k + 1 ticks in a row from its first tick on
  abbrev pub is_over : List Sample → Standing → Bool
  is_over past s = is_some (end_since k past (due_after terminal s.end))

  -- ---- what it sends

  abbrev pub drive_duty : List Sample → Standing → Duty → Drive
  drive_duty past s (owes words acceptance) =
      if nat_lt (length past) (due_after terminal s.end) || given_up past s || is_over past s then Silent
      else drive_sample s.channel s.part words (length past - due_after terminal s.end)
  drive_duty past s _ = Silent

  -- what is driven in the tick to come
  abbrev pub drive_of : List Moment → Standing → Drive
  drive_of past s = drive_duty (heard_on s.channel past) s s.duty

  -- ---- orders

  -- a whole burst with an addressed slot is a command, unless a newer one came on the other channel (4.4.3.2); another burst is
  -- taken for a promise that stands, if it begins after at most 30 dead ticks
  abbrev pub order_by : Standing → Channel → Burst → Option Order → Option Handled
  order_by s c burst (Some last) =
      if outrun s c then None else Some (obeys c (end_of burst) last (rest_of burst))
  order_by s c burst None =
      if promised_on k s c && nat_le burst.first (s.end + relay_wait) then Some (settles (end_of burst) burst.slots (rest_of burst))
      else None

  abbrev pub order_of : Standing → Channel → Option Burst → Option Handled
  order_of s c None = None
  order_of s c (Some burst) = order_by s c burst (last_order terminal.address burst.slots)

  -- the order on a channel in the newest tick: a burst's end became known, and the channel isn't ignored
  abbrev pub order_on : List Moment → Standing → Channel → Option Handled
  order_on [] s c = None
  order_on (now ∷ past) s c =
      if ignored_from k (heard_on c past) (mark_on s.sent c) then None
      else order_of s c (ended_now k (heard_on c (now ∷ past)))

  -- the promise runs out with the 31st quiet tick
  abbrev pub running_out : List Moment → Standing → Option Handled
  running_out past s =
      if promised_on k s s.channel && (length past == suc (s.end + relay_wait))
      && not (heard_within (heard_on s.channel past) s.end (length past))
      then Some runs_out else None

  -- what is handled in the newest tick, where s stood before it
  abbrev pub order_now : List Moment → Standing → Option Handled
  order_now past s = option_or (order_on past s A) (option_or (order_on past s B) (running_out past s))

  -- ---- what an order leaves

  abbrev pub kept_by : Memory → Channel → Duty → List (Option Word) → ℕ → Obeyed
  kept_by memory c (promises command transmitter) slots rest =
      keep_promise terminal memory c command transmitter slots rest
  kept_by memory c _ slots rest = unkept terminal memory c

  abbrev pub done_by : Standing → Memory → Bool → Handled → Obeyed
  done_by s memory may (obeys c end order rest) = obey terminal memory c order.command order.tail rest may
  done_by s memory may (settles end slots rest) = kept_by memory s.channel s.duty slots rest
  done_by s memory may runs_out = unkept terminal memory s.channel

  -- ---- the marks

  -- an answer begins in the tick to come
  abbrev pub begins : List Moment → Standing → Bool
  begins past s =
      is_owed s.duty && (length past == due_after terminal s.end) && not (given_up (heard_on s.channel past) s)

  abbrev pub sent_on : List Moment → Standing → Channel → Option ℕ
  sent_on past s c = if begins past s && same_channel s.channel c then Some (length past) else mark_on s.sent c

  -- an addressed slot counts where its channel isn't ignored
  abbrev pub addressed_on : List Moment → Standing → Channel → Option ℕ
  addressed_on [] s c = None
  addressed_on (now ∷ past) s c =
      if is_addressed terminal.address (slot_now k (heard_on c (now ∷ past)))
      && not (ignored_from k (heard_on c past) (mark_on s.sent c))
      then Some (length past) else mark_on s.addressed c

  -- s with what the newest tick marks, where before stood before it
  abbrev pub marked_by : Moment → List Moment → Standing → Standing → Standing
  marked_by now past before s = record s {
    sent = record { a = sent_on past before A; b = sent_on past before B };
    addressed = record { a = addressed_on (now ∷ past) before A; b = addressed_on (now ∷ past) before B };
  }

  module _ (loads : List TimedLoad) where
    -- what an order in this tick does: the loads of earlier ticks come before it
    abbrev pub done_in : ℕ → Bool → Standing → Handled → Obeyed
    done_in tick may s order = done_by s (with_loads terminal.address tick loads s.memory) may order

    abbrev pub ordered : ℕ → Bool → Standing → Option Handled → Standing
    ordered tick may s None = s
    ordered tick may s (Some order) = after_order s order (done_in tick may s order)

    -- one tick after s
    abbrev pub after_tick : Moment → List Moment → Standing → Standing
    after_tick now past s =
        marked_by now past s (ordered (length past) now.has_items s (order_now (now ∷ past) s))

    -- what stands after the ticks heard
    unfoldable pub standing : Memory → List Moment → Standing
    standing memory [] = at_rest memory
    standing memory (now ∷ past) = after_tick now past (standing memory past)

    abbrev pub standing_after : Hearing → Standing
    standing_after hearing = standing hearing.memory hearing.ticks

    -- ---- what a terminal is to its listeners

    -- what it sends in the tick to come
    abbrev pub drives : Hearing → Drive
    drives hearing = drive_of hearing.ticks (standing_after hearing)

    -- what it keeps
    abbrev pub memory_after : Hearing → Memory
    memory_after hearing = with_loads terminal.address (length hearing.ticks) loads (standing_after hearing).memory

    abbrev pub taken_by : ℕ → Bool → Standing → Option Handled → Option Taken
    taken_by tick may s None = None
    taken_by tick may s (Some order) = (done_in tick may s order).taken

    abbrev pub taken_of : Memory → List Moment → Option Taken
    taken_of memory [] = None
    taken_of memory (now ∷ past) =
        taken_by (length past) now.has_items (standing memory past) (order_now (now ∷ past) (standing memory past))

    -- the block that it took whole in the newest tick
    abbrev pub took_now : Hearing → Option Taken
    took_now hearing = taken_of hearing.memory hearing.ticks

    abbrev pub accepted_by : List Sample → Sample → Standing → Duty → Option ℕ
    accepted_by past now s (owes words true) =
        if given_up past s then None else heard_status (due_after terminal s.end) (ended_now k (now ∷ past))
    accepted_by past now s _ = None

    abbrev pub accepted_on : Moment → List Moment → Standing → Option ℕ
    accepted_on now past s = accepted_by (heard_on s.channel past) (sample_on now.shown s.channel) s s.duty

    abbrev pub accepted_of : Memory → List Moment → Option ℕ
    accepted_of memory [] = None
    accepted_of memory (now ∷ past) = accepted_on now past (standing memory past)

    -- control is accepted in the tick in which the answer's end is known (4.3.3.5.1.7.1): that end, where the answer accepts and wasn't
    -- given up in an earlier tick, and the burst that began with it has at least the 40 ticks of a status
    abbrev pub accepted_now : Hearing → Option ℕ
    accepted_now hearing = accepted_of hearing.memory hearing.ticks
