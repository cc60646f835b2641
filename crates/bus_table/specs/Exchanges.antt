-- The bursts of a message, and what a table tells of them.
use Rattle.std.specs.Prelude.{ℕ, ◌+◌, ◌-◌, nat_lt, if◌then◌else◌, List, [], ◌∷◌, flat_map, option_to_list, take, drop, length, Option, Some, None}
use Rattle.std.specs.Option.{option_or}
use Rattle.bus_base.specs.declared.samples.Channel.{Channel}
use Rattle.bus_base.specs.declared.samples.Pair.{Pair}
use Rattle.bus_base.specs.declared.samples.Part.{Part}
use Rattle.bus_base.specs.declared.samples.Part.TheVariants as parts
use Rattle.bus_line.specs.Past.{Burst, end_of, ended_now}
use Rattle.bus_line.specs.Channels.{on_channel, quiet_both}
use Rattle.bus_formats.specs.Readings.{datum_in}
use Rattle.bus_monitor.specs.Messages.{Waiting}
use Rattle.bus_monitor.specs.Awaited.{awaited}
use Rattle.bus_table.specs.Flaws.{bad_in}
use Rattle.bus_table.specs.declared.flaw.BadWord.{BadWord}
use Rattle.bus_table.specs.declared.notes.Answer.{Answer}
use Rattle.bus_words.specs.declared.word.Word.{Word}

-- the gap up to now, as the standard measures it: from the middle of the last parity bit on either channel to the middle of a sync that
-- begins now, which is four ticks more than those in which both channels were quiet (4.3.3.7); none where no tick before them wasn't
abbrev pub gap_now : List Pair → Option ℕ
gap_now past = if nat_lt (quiet_both past) (length past) then Some (quiet_both past + 4) else None

-- the gap up to a tick
abbrev pub gap_before : List Pair → ℕ → Option ℕ
gap_before past tick = gap_now (drop (length past - tick) past)

-- a burst as a table tells of it: with the gap before it, and its first bad word
pub record Told : Type 0 where
  pub burst : Burst
  pub gap : Option ℕ
  pub bad : Option BadWord

-- the bursts of a message: the one that opened it, and the answers to it
pub record Exchange : Type 0 where
  pub opening : Told
  pub first : Option Told
  pub second : Option Told

abbrev pub told_of : Channel → List Pair → Burst → Told
told_of c past burst =
    record { burst = burst; gap = gap_before past burst.first; bad = bad_in (on_channel c past) burst }

-- a burst opens a message where none waits for an answer, and else is the answer that is awaited
abbrev pub opened_by : Told → Exchange
opened_by told = record { opening = told; first = None; second = None }

abbrev pub answered_by : Part → Exchange → Told → Exchange
answered_by parts.Second e told = record e { second = Some told }
answered_by _ e told = record e { first = Some told }

abbrev pub exchange_with : Option Waiting → Exchange → Told → Exchange
exchange_with None e told = opened_by told
exchange_with (Some w) e told = answered_by w.part e told

abbrev pub exchange_after : Channel → List Pair → Option Waiting → Exchange → Option Burst → Exchange
exchange_after c past w e None = e
exchange_after c past w e (Some burst) = exchange_with w e (told_of c past burst)

-- before all bursts
abbrev pub no_exchange : Exchange
no_exchange = opened_by record { burst = record { first = 0; ticks = 0; slots = [] }; gap = None; bad = None }

-- the bursts of the newest message on a channel, as far as their ends are known
unfoldable pub exchange : ℕ → Channel → List Pair → Exchange
exchange k c [] = no_exchange
exchange k c (shown ∷ past) =
    exchange_after c (shown ∷ past) (awaited k (on_channel c past)) (exchange k c past) (ended_now k (on_channel c (shown ∷ past)))

-- ---- what is told of them

-- the tick after a burst
abbrev pub told_end : Told → ℕ
told_end told = end_of told.burst

-- an answer: four ticks after its first one, the tick after it, and its first bad word
abbrev pub answer_told : Told → Answer
answer_told told = record { begun = told.burst.first + 4; end = told_end told; bad = told.bad }

abbrev pub answer_of : Option Told → Option Answer
answer_of None = None
answer_of (Some told) = Some (answer_told told)

-- the data words behind a status word, 32 at most
abbrev pub words_behind : List (Option Word) → List ℕ
words_behind slots = flat_map (λ slot. option_to_list (datum_in slot)) (drop 1 (take 33 slots))

abbrev pub answer_words : Option Told → List ℕ
answer_words None = []
answer_words (Some told) = words_behind told.burst.slots

-- of the bursts of a message: the gap before them, the tick after the opening burst and its first bad word, both answers, and the data words of
-- the first
pub record Facts : Type 0 where
  pub gap : Option ℕ
  pub end : ℕ
  pub bad : Option BadWord
  pub first : Option Answer
  pub second : Option Answer
  pub words : List ℕ

abbrev pub facts_of : Exchange → Facts
facts_of e = record {
  gap = e.opening.gap;
  end = told_end e.opening;
  bad = e.opening.bad;
  first = answer_of e.first;
  second = answer_of e.second;
  words = answer_words e.first;
}

-- the time from the end of a burst to an answer, measured as a gap is, but on its own channel (4.3.3.8)
abbrev pub response : ℕ → Option Answer → Option ℕ
response end None = None
response end (Some answer) = Some (answer.begun - end)

abbrev pub later_end : ℕ → Option Answer → ℕ
later_end end None = end
later_end end (Some answer) = answer.end

abbrev pub later_bad : Option BadWord → Option Answer → Option BadWord
later_bad bad None = bad
later_bad bad (Some answer) = option_or bad answer.bad

-- the responses, the tick after the last burst, and the first bad word
abbrev pub first_response : Facts → Option ℕ
first_response facts = response facts.end facts.first

abbrev pub second_response : Facts → Option ℕ
second_response facts = response (later_end facts.end facts.first) facts.second

abbrev pub last_end : Facts → ℕ
last_end facts = later_end (later_end facts.end facts.first) facts.second

abbrev pub first_bad : Facts → Option BadWord
first_bad facts = later_bad (later_bad facts.bad facts.first) facts.second
