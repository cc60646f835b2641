-- Bursts of words that were sent whole.
use Rattle.std.specs.Prelude.{ℕ, ◌+◌, ◌*◌, List, length}
use Rattle.bus_base.specs.declared.samples.Channel.{Channel}
use Rattle.bus_line.specs.Channels.{WholeBurst}
use Rattle.bus_law_duties.specs.Words.{whole_slots}
use Rattle.bus_words.specs.declared.word.Word.{Word}

-- the ticks of words that were sent whole, with no rest after them
abbrev pub word_ticks : List Word → ℕ
word_ticks words = 40 * length (whole_slots words) + 0

-- a burst of these words, each whole, on a channel from this tick on
abbrev pub whole_burst : Channel → ℕ → List Word → WholeBurst
whole_burst c start words = record { channel = c; burst = record { first = start; ticks = word_ticks words; slots = whole_slots words } }
