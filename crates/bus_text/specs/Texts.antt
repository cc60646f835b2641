-- The pieces of which printed lines are made: numbers, words, channels, outcomes, and the line of a word heard.
use Rattle.std.specs.Prelude.{ℕ, ◌+◌, ◌/◌, ◌%◌, nat_lt, if◌then◌else◌, List, [], ◌∷◌, ◌++◌, map, flat_map, codes, decimal, Option, Some, None}
use Rattle.std.specs.List.{join_with_byte}
use Rattle.bus_base.specs.declared.samples.Channel.{Channel}
use Rattle.bus_base.specs.declared.samples.Channel.TheVariants.{A, B}
use Rattle.bus_base.specs.declared.samples.Part.{Part}
use Rattle.bus_base.specs.declared.samples.Part.TheVariants as parts
use Rattle.bus_words.specs.declared.word.Sync.{Sync}
use Rattle.bus_words.specs.declared.word.Sync.TheVariants as syncs
use Rattle.bus_formats.specs.Forms.{commands_of}
use Rattle.bus_formats.specs.declared.form.Outcome.{Outcome}
use Rattle.bus_formats.specs.declared.form.Outcome.TheVariants.{Clear, Sent, Declined, Passed, Illegal, Busy, NoResponse, BadReply, Abandoned, Yielded}
use Rattle.bus_formats.specs.declared.log.Heard.{Heard}
use Rattle.bus_formats.specs.declared.plan.Kind.{Kind}

-- ---- numbers and words

-- an upper-case hexadecimal digit
abbrev pub hex_digit : ℕ → ℕ
hex_digit n = if nat_lt n 10 then 48 + n else 55 + n

-- a word as four digits
abbrev pub hex_word : ℕ → List ℕ
hex_word n = hex_digit (n / 4096 % 16) ∷ hex_digit (n / 256 % 16) ∷ hex_digit (n / 16 % 16) ∷ hex_digit (n % 16) ∷ []

-- a text, a number or a word after a space
abbrev pub spaced : List ℕ → List ℕ
spaced text = 32 ∷ text

abbrev pub number : ℕ → List ℕ
number n = spaced (decimal n)

abbrev pub word : ℕ → List ℕ
word n = spaced (hex_word n)

abbrev pub words : List ℕ → List ℕ
words ws = flat_map word ws

-- a line ends with a line feed
abbrev pub line : List ℕ → List ℕ
line text = text ++ (10 ∷ [])

abbrev pub channel_text : Channel → List ℕ
channel_text A = codes " A"
channel_text B = codes " B"

-- ---- outcomes and messages

abbrev pub part_number : Part → ℕ
part_number parts.Command = 0
part_number parts.First = 1
part_number parts.Second = 2

abbrev pub outcome_text : Outcome → List ℕ
outcome_text Clear = codes " clear"
outcome_text Sent = codes " sent"
outcome_text Declined = codes " declined"
outcome_text Passed = codes " passed"
outcome_text (Illegal part) = codes " illegal" ++ number (part_number part)
outcome_text (Busy part) = codes " busy" ++ number (part_number part)
outcome_text (NoResponse part) = codes " no-response" ++ number (part_number part)
outcome_text (BadReply part) = codes " bad-reply" ++ number (part_number part)
outcome_text Abandoned = codes " abandoned"
outcome_text Yielded = codes " yielded"

-- the command words of a message after a space, a relay's two joined by a plus sign
abbrev pub commands_text : Kind → List ℕ
commands_text kind = spaced (join_with_byte 43 (map hex_word (commands_of kind)))

abbrev pub status_text : Option ℕ → List ℕ
status_text None = []
status_text (Some status) = codes " status" ++ word status

-- data words that were kept, if any
abbrev pub words_text : List ℕ → List ℕ
words_text [] = []
words_text (w ∷ ws) = codes " words" ++ words (w ∷ ws)

-- ---- words heard

abbrev pub sync_text : Sync → List ℕ
sync_text syncs.Command = codes " c"
sync_text syncs.Datum = codes " d"

abbrev pub word_line : Heard → List ℕ
word_line h = line (codes "word" ++ number h.tick.0 ++ channel_text h.channel ++ sync_text h.word.sync ++ word h.word.bits)
