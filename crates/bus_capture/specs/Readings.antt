-- How a capture text is read: what each byte is in its place, the ticks that are whole, and the first byte that may not stand there.
-- The bytes that came are a list with the newest byte first.
use Rattle.std.specs.Prelude.{ℕ, ◌^◌, ◌==◌, nat_lt, nat_le, if◌then◌else◌, List, [], ◌∷◌, ◌++◌, length, reverse, get_or, Option, Some, None, option_to_list, Result, Ok, Err}
use Rattle.bus_base.specs.declared.samples.Sample.{Sample}
use Rattle.bus_base.specs.declared.samples.Sample.TheVariants.{Plus, Minus, Quiet}
use Rattle.bus_base.specs.declared.samples.Pair.{Pair}
use Rattle.bus_capture.specs.Captures.{line_feed, header}
use Rattle.bus_capture.specs.declared.refusal.CaptureRefusal.{CaptureRefusal}
use Rattle.bus_capture.specs.declared.refusal.CaptureRefusal.TheVariants.{Header, Byte, HalfTick, Long}
use Rattle.bus_capture.specs.declared.reader.Place.{Place}
use Rattle.bus_capture.specs.declared.reader.Place.TheVariants.{Between, Half, Refused}
use Rattle.bus_capture.specs.declared.reader.Step.{Step}

-- the most bytes that a capture text has
abbrev pub text_limit : ℕ
text_limit = 2 ^ 33

-- the sample that a byte writes
abbrev pub sample_of : ℕ → Option Sample
sample_of byte =
    if byte == 43 then Some Plus else if byte == 45 then Some Minus else if byte == 46 then Some Quiet else None

abbrev pub reached : Place → Step
reached place = record { place = place; tick = None }

-- the byte at this offset, in the header
abbrev pub in_header : ℕ → ℕ → Step
in_header at byte = reached (if byte == get_or header at 0 then Between else Refused (Header at))

-- a byte after whole ticks: a sample of A, or a line feed
abbrev pub first_byte : ℕ → ℕ → Option Sample → Step
first_byte at byte (Some a) = reached (Half a)
first_byte at byte None = reached (if byte == line_feed then Between else Refused (Byte at))

-- a byte after a sample of A: the sample of B in the same tick
abbrev pub second_byte : ℕ → Sample → Option Sample → Step
second_byte at a (Some b) = record { place = Between; tick = Some record { a = a; b = b } }
second_byte at a None = reached (Refused (Byte at))

-- a byte in the place that the bytes before it came to; what was refused stays refused
abbrev pub in_ticks : ℕ → ℕ → Place → Step
in_ticks at byte Between = first_byte at byte (sample_of byte)
in_ticks at byte (Half a) = second_byte at a (sample_of byte)
in_ticks at byte (Refused refusal) = reached (Refused refusal)

abbrev pub in_text : ℕ → ℕ → Place → Step
in_text at byte place =
    if nat_lt at (length header) then in_header at byte
    else if nat_le text_limit at then reached (Refused (Long at))
    else in_ticks at byte place

abbrev pub one_byte : ℕ → ℕ → Place → Step
one_byte at byte (Refused refusal) = reached (Refused refusal)
one_byte at byte place = in_text at byte place

-- where the text stands after these bytes
unfoldable pub place_after : List ℕ → Place
place_after [] = Between
place_after (byte ∷ bytes) = (one_byte (length bytes) byte (place_after bytes)).place

-- the tick that the newest byte completes
abbrev pub tick_now : List ℕ → Option Pair
tick_now [] = None
tick_now (byte ∷ bytes) = (one_byte (length bytes) byte (place_after bytes)).tick

-- the whole ticks, the newest first
unfoldable pub ticks_in : List ℕ → List Pair
ticks_in [] = []
ticks_in (byte ∷ bytes) = option_to_list (tick_now (byte ∷ bytes)) ++ ticks_in bytes

-- what a reader answers to its newest byte: the tick that it completes, or the first refusal
abbrev pub answer_at : Place → Option Pair → Result (Option Pair) CaptureRefusal
answer_at (Refused refusal) tick = Err refusal
answer_at place tick = Ok tick

abbrev pub answer_now : List ℕ → Result (Option Pair) CaptureRefusal
answer_now bytes = answer_at (place_after bytes) (tick_now bytes)

-- what the text comes to where it ends after these bytes: the number of ticks, or the refusal
abbrev pub end_in : ℕ → ℕ → Place → Result ℕ CaptureRefusal
end_in count ticks (Refused refusal) = Err refusal
end_in count ticks Between = if nat_lt count (length header) then Err (Header count) else Ok ticks
end_in count ticks (Half a) = Err (HalfTick count)

abbrev pub end_after : List ℕ → Result ℕ CaptureRefusal
end_after bytes = end_in (length bytes) (length (ticks_in bytes)) (place_after bytes)

-- a text as it is read: its ticks, the newest first, as far as nothing was refused; and their number or the first refusal
pub record Capture : Type 0 where
  pub ticks : List Pair
  pub ended : Result ℕ CaptureRefusal

unfoldable pub capture_ticks : List ℕ → Capture
capture_ticks text = record { ticks = ticks_in (reverse text); ended = end_after (reverse text) }
