-- How a value change dump is read: what each token is in its place, and the moments that its times are.
--
-- Its head has sections, each from a word with a dollar sign to `$end`: `$timescale`, `$var` and others, at last `$enddefinitions`. Then come times
-- (`#` and a number) and changes (0, 1, x or z and an identifier) until the next time; values of other kinds and their identifiers are passed over.
use Rattle.std.specs.Prelude.{ℕ, ◌+◌, ◌*◌, ◌==◌, ◌&&◌, ◌||◌, not, nat_lt, nat_le, Bool, true, false, if◌then◌else◌, List, [], ◌∷◌, codes, Option, Some, None, Result, Ok, Err}
use Rattle.arrayvec.specs.ArrayVec.{ArrayVec}
use Rattle.bus_base.specs.declared.samples.Pair.{Pair}
use Rattle.bus_decimal.specs.Decimal.{number_up_to}
use Rattle.bus_recording.specs.Tokens.{is_white, bytes_of, no_token, is_begun, with_byte, is_word, front, rest_of}
use Rattle.bus_recording.specs.Scales.{unit_of, joined}
use Rattle.bus_recording.specs.Wires.{each, declared, changed, first_missing, pair_of}
use Rattle.bus_recording.specs.declared.refusal.RecordingRefusal.{RecordingRefusal}
use Rattle.bus_recording.specs.declared.refusal.RecordingRefusal.TheVariants as refusals
use Rattle.bus_recording.specs.declared.token.Token.{Token}
use Rattle.bus_recording.specs.declared.wires.Wires.{Wires}
use Rattle.bus_recording.specs.declared.moment.Moment.{Moment}
use Rattle.bus_recording.specs.declared.vcd.Place.{Place}
use Rattle.bus_recording.specs.declared.vcd.Place.TheVariants.{Head, Scale, Variable, Section, Definitions, Body, Identifier, Comment, Refused}
use Rattle.bus_recording.specs.declared.vcd.VcdReader.{VcdReader}

-- the most bytes of a recording
abbrev pub text_limit : ℕ
text_limit = 8589934592

-- the latest time, in picoseconds: nearly a week
abbrev pub latest_time : ℕ
latest_time = 576460752303423488

-- before the first byte
abbrev pub reader_of : Wires → VcdReader
reader_of wires = record {
  place = Head;
  token = no_token;
  at = 0;
  scale = record { items = [] };
  unit = 0;
  part = 0;
  is_bit = false;
  id = record { items = [] };
  wires = wires;
  time = 0;
}

abbrev pub at_place : Place → VcdReader → VcdReader
at_place place r = record r { place = place }

abbrev pub refused : RecordingRefusal → VcdReader → VcdReader
refused refusal r = at_place (Refused refusal) r

-- ---- the head

-- a section ends
abbrev pub end_word : List ℕ
end_word = codes "$end"

abbrev pub ends_section : VcdReader → Bool
ends_section r = is_word end_word r.token

abbrev pub passed : Place → VcdReader → VcdReader
passed next r = if ends_section r then at_place next r else r

-- where values begin, the unit of time is known and each line has a variable
abbrev pub with_lines : Option ℕ → VcdReader → VcdReader
with_lines (Some line) r = refused (refusals.NoLine line) r
with_lines None r = at_place Definitions r

abbrev pub definitions_end : VcdReader → VcdReader
definitions_end r = if r.unit == 0 then refused refusals.NoTimescale r else with_lines (first_missing r.wires) r

abbrev pub section_begins : VcdReader → VcdReader
section_begins r =
    if front (bytes_of r.token) == 36 then at_place Section r else refused (refusals.Token r.token.start) r

abbrev pub head_token : VcdReader → VcdReader
head_token r =
    if is_word (codes "$timescale") r.token then record r { place = Scale; scale = record { items = [] } }
    else if is_word (codes "$var") r.token then record r { place = Variable; part = 0; is_bit = true }
    else if is_word (codes "$enddefinitions") r.token then definitions_end r
    else section_begins r

abbrev pub scale_token : VcdReader → VcdReader
scale_token r =
    if ends_section r then record r { place = Head; unit = unit_of r.scale.items }
    else record r { scale = record { items = joined r.scale.items (bytes_of r.token) } }

-- the parts of a variable: its kind, its width, its identifier, its name, and others
abbrev pub is_wire : Token → Bool
is_wire token = is_word (codes "wire") token || is_word (codes "reg") token

abbrev pub named : VcdReader → VcdReader
named r =
    if r.is_bit && not r.token.is_long
    then record r { part = 4; wires = each (declared r.id.items (bytes_of r.token)) r.wires }
    else record r { part = 4 }

abbrev pub variable_part : VcdReader → VcdReader
variable_part r =
    if r.part == 0 then record r { part = 1; is_bit = is_wire r.token }
    else if r.part == 1 then record r { part = 2; is_bit = r.is_bit && is_word (codes "1") r.token }
    else if r.part == 2 then record r { part = 3; is_bit = r.is_bit && not r.token.is_long; id = r.token.bytes }
    else if r.part == 3 then named r
    else r

abbrev pub variable_token : VcdReader → VcdReader
variable_token r = if ends_section r then at_place Head r else variable_part r

-- ---- the values

-- the time that a token says, in picoseconds
abbrev pub time_up_to : ℕ → Option ℕ → Option ℕ
time_up_to unit None = None
time_up_to unit (Some units) = if nat_le (units * unit) latest_time then Some (units * unit) else None

abbrev pub time_said : VcdReader → Option ℕ
time_said r = if r.token.is_long then None else time_up_to r.unit (number_up_to latest_time (rest_of r.token))

abbrev pub time_token : Option ℕ → VcdReader → VcdReader
time_token None r = refused (refusals.Token r.token.start) r
time_token (Some said) r = if nat_lt said r.time then refused (refusals.Time r.token.start) r else record r { time = said }

-- the moment that a good time ends: the time before it, and what the channels show from then on
abbrev pub moment_at : VcdReader → Moment
moment_at r = record { at = r.time; pair = pair_of r.wires }

abbrev pub moment_of : Option ℕ → VcdReader → Option Moment
moment_of None r = None
moment_of (Some said) r = if nat_lt said r.time then None else Some (moment_at r)

abbrev pub is_time : VcdReader → Bool
is_time r = front (bytes_of r.token) == 35

abbrev pub is_value : ℕ → Bool
is_value byte = (byte == 48) || (byte == 49) || (byte == 88) || (byte == 120) || (byte == 90) || (byte == 122)

abbrev pub is_other_value : ℕ → Bool
is_other_value byte = (byte == 66) || (byte == 98) || (byte == 82) || (byte == 114) || (byte == 83) || (byte == 115)

-- a change of a one-bit variable; x and z are off
abbrev pub value_token : Bool → VcdReader → VcdReader
value_token on r = if r.token.is_long then r else record r { wires = each (changed (rest_of r.token) on) r.wires }

abbrev pub word_token : VcdReader → VcdReader
word_token r =
    if is_word (codes "$comment") r.token then at_place Comment r
    else if front (bytes_of r.token) == 36 then r
    else refused (refusals.Token r.token.start) r

abbrev pub body_token : VcdReader → VcdReader
body_token r =
    if is_time r then time_token (time_said r) r
    else if is_value (front (bytes_of r.token)) then value_token (front (bytes_of r.token) == 49) r
    else if is_other_value (front (bytes_of r.token)) then at_place Identifier r
    else word_token r

-- ---- every token

abbrev pub token_in : Place → VcdReader → VcdReader
token_in Head r = head_token r
token_in Scale r = scale_token r
token_in Variable r = variable_token r
token_in Section r = passed Head r
token_in Definitions r = passed Body r
token_in Body r = body_token r
token_in Identifier r = at_place Body r
token_in Comment r = passed Body r
token_in (Refused refusal) r = r

-- the moment that a token ends
abbrev pub moment_in_body : VcdReader → Option Moment
moment_in_body r = if is_time r then moment_of (time_said r) r else None

abbrev pub moment_in : Place → VcdReader → Option Moment
moment_in Body r = moment_in_body r
moment_in _ r = None

-- ---- every byte

abbrev pub without_token : VcdReader → VcdReader
without_token r = record r { token = no_token }

-- a token ends, where one is begun
abbrev pub token_ended : VcdReader → VcdReader
token_ended r = if is_begun r.token then without_token (token_in r.place r) else r

abbrev pub moment_ended : VcdReader → Option Moment
moment_ended r = if is_begun r.token then moment_in r.place r else None

abbrev pub is_refused : Place → Bool
is_refused (Refused refusal) = true
is_refused _ = false

abbrev pub byte_taken : ℕ → VcdReader → VcdReader
byte_taken byte r = if is_white byte then token_ended r else record r { token = with_byte r.at byte r.token }

abbrev pub counted : ℕ → VcdReader → VcdReader
counted at r = record r { at = at + 1 }

-- the reader after one byte more
abbrev pub after_byte : ℕ → VcdReader → VcdReader
after_byte byte r =
    if is_refused r.place then r
    else if nat_le text_limit r.at then refused (refusals.Long r.at) r
    else counted r.at (byte_taken byte r)

-- the moment that a byte ends
abbrev pub moment_taken : ℕ → VcdReader → Option Moment
moment_taken byte r = if is_white byte then moment_ended r else None

abbrev pub moment_after : ℕ → VcdReader → Option Moment
moment_after byte r =
    if is_refused r.place then None
    else if nat_le text_limit r.at then None
    else moment_taken byte r

-- what is told of it: the moment, or the first refusal, and that again ever after
abbrev pub answer_of : Place → Option Moment → Result (Option Moment) RecordingRefusal
answer_of (Refused refusal) moment = Err refusal
answer_of _ moment = Ok moment

-- ---- the end

-- why a text that ends in its head is refused
abbrev pub refusal_of_line : ℕ → Option ℕ → RecordingRefusal
refusal_of_line at (Some line) = refusals.NoLine line
refusal_of_line at None = refusals.Token at

abbrev pub head_refusal : VcdReader → RecordingRefusal
head_refusal r = if r.unit == 0 then refusals.NoTimescale else refusal_of_line r.at (first_missing r.wires)

-- what a text comes to where it ends: its last moment, or the first refusal
-- the last moment: the one that the last token ends, where it is a time that no white space follows; else what is shown from the last time on
abbrev pub last_by : Option Moment → VcdReader → Moment
last_by None r = moment_at r
last_by (Some moment) r = moment

abbrev pub end_in : Place → Option Moment → VcdReader → Result Moment RecordingRefusal
end_in (Refused refusal) moment r = Err refusal
end_in Body moment r = Ok (last_by moment r)
end_in Identifier moment r = Ok (last_by moment r)
end_in Comment moment r = Ok (last_by moment r)
end_in _ moment r = Err (head_refusal r)

-- ---- texts, the newest byte first

unfoldable pub reader_after : Wires → List ℕ → VcdReader
reader_after wires [] = reader_of wires
reader_after wires (byte ∷ bytes) = after_byte byte (reader_after wires bytes)
