-- What the listings grow by in each tick. That they are the listings of the whole past is a law.
use Rattle.std.specs.Prelude.{ℕ, ◌+◌, Bool, not, ◌==◌, ◌&&◌, if◌then◌else◌, List, [], ◌∷◌, ◌++◌, map, flat_map, length, Option, Some, None, option_to_list, codes}
use Rattle.bus_base.specs.declared.samples.Channel.{Channel}
use Rattle.bus_base.specs.declared.samples.Channel.TheVariants.{A, B}
use Rattle.bus_base.specs.declared.samples.Pair.{Pair}
use Rattle.bus_base.specs.declared.samples.Sample.{Sample}
use Rattle.bus_line.specs.Past.{Burst, Slot, runs, ended_now, slot_now}
use Rattle.bus_line.specs.Channels.{on_channel, valid}
use Rattle.bus_formats.specs.Times.{no_response}
use Rattle.bus_formats.specs.declared.log.Heard.{Heard}
use Rattle.bus_words.specs.declared.word.Word.{Word}
use Rattle.bus_text.specs.Texts.{line, number, word_line}
use Rattle.bus_monitor.specs.Messages.{Closed, Waiting, is_answer, waits, opened, opening, closed_by, answer_read, unanswered}
use Rattle.bus_monitor.specs.Listings.{heard_word, lines_on, lines_of_both, closed_line, open_line, open_on}

-- the line that ends a listing
abbrev pub end_text : ℕ → List ℕ
end_text ticks = line (codes "end" ++ number ticks)

-- ---- words

abbrev pub heard_at : Channel → ℕ → Option Word → Option Heard
heard_at c p None = None
heard_at c p (Some word) = Some record { tick = record { 0 = p }; channel = c; word = word }

abbrev pub heard_of : Channel → Option Slot → Option Heard
heard_of c None = None
heard_of c (Some slot) = heard_at c slot.first slot.word

-- the valid word that ended on a channel in the newest tick, if one did
abbrev pub heard_now : ℕ → Channel → List Pair → Option Heard
heard_now k c past = heard_of c (slot_now k (on_channel c past))

-- the lines that the ticks complete
unfoldable pub word_lines : ℕ → List Pair → List ℕ
word_lines k past = flat_map word_line (map heard_word (valid k past))

-- the lines that the newest tick completes
abbrev pub words_now : ℕ → List Pair → List Heard
words_now k past = option_to_list (heard_now k A past) ++ option_to_list (heard_now k B past)

-- ---- messages

-- the message that waits for an answer on a channel
abbrev pub waits_after_end : ℕ → Option Waiting → Option Burst → Option Waiting
waits_after_end k w (Some burst) = waits k w burst
waits_after_end k w None = w

unfoldable pub waiting : ℕ → List Sample → Option Waiting
waiting k [] = None
waiting k (x ∷ past) = waits_after_end k (waiting k past) (ended_now k (x ∷ past))

-- the messages that a burst closes in the tick in which its end is known; one that was not answered in time had closed before
abbrev pub closed_at_burst : ℕ → Option Waiting → Burst → List Closed
closed_at_burst k None burst = opened k burst (opening k burst)
closed_at_burst k (Some w) burst =
    if is_answer k w burst.first then closed_by k w (burst.first + burst.ticks) (answer_read k w burst)
    else opened k burst (opening k burst)

-- a message whose time for an answer is over with this tick, where no burst runs
abbrev pub closed_in_time : ℕ → Bool → Option Waiting → List Closed
closed_in_time tick running None = []
closed_in_time tick running (Some w) = if not running && (tick == w.from + no_response) then unanswered w else []

-- the messages that close in this tick
abbrev pub closed_with : ℕ → ℕ → Bool → Option Waiting → Option Burst → List Closed
closed_with k tick running w (Some burst) = closed_at_burst k w burst
closed_with k tick running w None = closed_in_time tick running w

unfoldable pub closed_now : ℕ → List Sample → List Closed
closed_now k [] = []
closed_now k (x ∷ past) = closed_with k (length past) (runs k (x ∷ past)) (waiting k past) (ended_now k (x ∷ past))

-- the lines that the ticks complete
unfoldable pub message_lines : ℕ → List Pair → List ℕ
message_lines k past = flat_map (λ l. l.text) (lines_of_both (lines_on k A past) (lines_on k B past))

abbrev pub messages_now : ℕ → Channel → List Pair → List ℕ
messages_now k c past = flat_map (λ l. l.text) (map (closed_line c) (closed_now k (on_channel c past)))

-- the lines of what is open
unfoldable pub open_lines : ℕ → List Pair → List ℕ
open_lines k past = open_line A (open_on k A past) ++ open_line B (open_on k B past)
