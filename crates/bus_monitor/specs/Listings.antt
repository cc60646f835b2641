-- The listings of a monitor (bus monitor 4.4.4): the valid words, and the messages, of what both channels showed.
use Rattle.std.specs.Prelude.{ℕ, nat_lt, if◌then◌else◌, List, [], ◌∷◌, ◌++◌, map, filter_map, flat_map, length, codes, Option, Some, None}
use Rattle.std.specs.List.{join_with_byte}
use Rattle.bus_base.specs.Samples.{same_channel}
use Rattle.bus_base.specs.declared.samples.Channel.{Channel}
use Rattle.bus_base.specs.declared.samples.Channel.TheVariants.{A, B}
use Rattle.bus_base.specs.declared.samples.Pair.{Pair}
use Rattle.bus_base.specs.declared.samples.Sample.{Sample}
use Rattle.bus_line.specs.Past.{Burst, runs, first_tick}
use Rattle.bus_line.specs.Channels.{ValidWord, WholeBurst, on_channel, valid, bursts}
use Rattle.bus_formats.specs.declared.log.Heard.{Heard}
use Rattle.bus_formats.specs.Forms.{commands_of}
use Rattle.bus_text.specs.Texts.{line, number, spaced, hex_word, channel_text, word_line, outcome_text, word}
use Rattle.bus_monitor.specs.Messages.{Came, unknown, ended, Closed, messages, open_message}

abbrev pub end_line : List Pair → List ℕ
end_line past = line (codes "end" ++ number (length past))

-- ---- words

abbrev pub heard_word : ValidWord → Heard
heard_word w = record { tick = record { 0 = w.first }; channel = w.channel; word = w.word }

-- a line for each valid word, in the order of their last ticks, A before B
unfoldable pub word_listing : ℕ → List Pair → List ℕ
word_listing k past = flat_map word_line (map heard_word (valid k past)) ++ end_line past

-- ---- messages

abbrev pub burst_on : Channel → WholeBurst → Option Burst
burst_on c whole = if same_channel whole.channel c then Some whole.burst else None

abbrev pub bursts_on : ℕ → Channel → List Pair → List Burst
bursts_on k c past = filter_map (burst_on c) (bursts k past)

-- the first tick of the burst that runs on a channel
abbrev pub running_on : ℕ → List Sample → Option ℕ
running_on k past = if runs k past then Some (first_tick k past) else None

abbrev pub messages_on : ℕ → Channel → List Pair → List Closed
messages_on k c past = messages k (running_on k (on_channel c past)) (length past) None (bursts_on k c past)

abbrev pub open_on : ℕ → Channel → List Pair → Option ℕ
open_on k c past = open_message k (running_on k (on_channel c past)) (length past) None (bursts_on k c past)

abbrev pub statuses_text : List ℕ → List ℕ
statuses_text statuses = flat_map (λ status. codes " status" ++ word status) statuses

abbrev pub came_text : Came → List ℕ
came_text unknown = codes " unknown"
came_text (ended kind outcome statuses) =
    spaced (join_with_byte 43 (map hex_word (commands_of kind))) ++ outcome_text outcome ++ statuses_text statuses

abbrev pub message_line : Channel → ℕ → List ℕ → List ℕ
message_line c first text = line (codes "message" ++ number first ++ channel_text c ++ text)

-- a message's line, and the tick in which it closes
pub record ClosedLine : Type 0 where
  pub tick : ℕ
  pub text : List ℕ

abbrev pub closed_line : Channel → Closed → ClosedLine
closed_line c closed = record { tick = closed.tick; text = message_line c closed.first (came_text closed.came) }

abbrev pub lines_on : ℕ → Channel → List Pair → List ClosedLine
lines_on k c past = map (closed_line c) (messages_on k c past)

-- a line of B among those of A, after those that close in the same tick
abbrev pub place_line : ClosedLine → List ClosedLine → List ClosedLine
place_line l [] = l ∷ []
place_line l (other ∷ others) = if nat_lt l.tick other.tick then l ∷ other ∷ others else other ∷ place_line l others

-- the lines of both channels in the order in which they close, A before B in one tick
abbrev pub lines_of_both : List ClosedLine → List ClosedLine → List ClosedLine
lines_of_both lines [] = lines
lines_of_both lines (l ∷ later) = lines_of_both (place_line l lines) later

abbrev pub open_line : Channel → Option ℕ → List ℕ
open_line c None = []
open_line c (Some first) = message_line c first (codes " open")

-- a line for each message where it closes, then those that are open at the end, A before B
unfoldable pub message_listing : ℕ → List Pair → List ℕ
message_listing k past =
    flat_map (λ l. l.text) (lines_of_both (lines_on k A past) (lines_on k B past))
    ++ open_line A (open_on k A past) ++ open_line B (open_on k B past) ++ end_line past
