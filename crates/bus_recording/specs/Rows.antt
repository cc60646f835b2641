-- How rows of numbers are read: fields parted by `,`, `;` or tabs, rows by line feeds. A row whose fields are numbers is a moment. Rows that aren't are
-- passed over before the first that is, and end the recording after it.
use Rattle.std.specs.Prelude.{ℕ, ◌+◌, ◌-◌, min, ◌==◌, ◌&&◌, ◌||◌, not, nat_lt, nat_le, Bool, true, false, if◌then◌else◌, Option, Some, None, is_some, Result, Ok, Err}
use Rattle.bus_base.specs.declared.samples.Sample.{Sample}
use Rattle.bus_base.specs.declared.samples.Sample.TheVariants.{Plus, Minus, Quiet}
use Rattle.bus_base.specs.declared.samples.Pair.{Pair}
use Rattle.bus_recording.specs.Numbers.{greatest, no_number, number_after, size_of}
use Rattle.bus_recording.specs.Wires.{level_of}
use Rattle.bus_recording.specs.declared.number.Number.{Number}
use Rattle.bus_recording.specs.declared.refusal.RecordingRefusal.{RecordingRefusal}
use Rattle.bus_recording.specs.declared.refusal.RecordingRefusal.TheVariants as refusals
use Rattle.bus_recording.specs.declared.moment.Moment.{Moment}
use Rattle.bus_recording.specs.declared.fields.Columns.{Columns}
use Rattle.bus_recording.specs.declared.fields.Fields.{Fields}
use Rattle.bus_recording.specs.declared.rows.Rows.{Rows}
use Rattle.bus_recording.specs.declared.rows.Rows.TheVariants.{Before, Within, Over, Refused}
use Rattle.bus_recording.specs.declared.rows.RowReader.{RowReader}

-- the most bytes of a recording
abbrev pub text_limit : ℕ
text_limit = 8589934592

-- times are counted from this one, so that those before a trigger are numbers too
abbrev pub origin : ℕ
origin = 1152921504606846976

abbrev pub no_fields : Fields
no_fields = record { time = None; a_plus = None; a_minus = None; b_plus = None; b_minus = None }

-- before the first byte
abbrev pub reader_of : Columns → RowReader
reader_of columns = record {
  columns = columns;
  rows = Before;
  number = no_number;
  column = 1;
  fields = no_fields;
  at = 0;
  start = 0;
  first = 0;
  time = 0;
}

-- ---- fields

-- a sum, but never past the last value of a `u64`
abbrev pub capped : ℕ → ℕ
capped sum = min sum 18446744073709551615

-- the time that a number says in seconds, in picoseconds after the origin
abbrev pub time_by : Bool → Option ℕ → Option ℕ
time_by negative None = None
time_by true (Some size) = Some (origin - size)
time_by false (Some size) = Some (capped (origin + size))

abbrev pub time_of : Number → Option ℕ
time_of n = time_by n.is_negative (size_of n)

-- the level that a voltage shows: its sign, where it is further from 0 than the threshold, in picovolts
abbrev pub sign_of : Bool → Sample
sign_of true = Minus
sign_of false = Plus

abbrev pub volts_by : ℕ → Bool → Option ℕ → Option Sample
volts_by threshold negative None = None
volts_by threshold negative (Some size) = if nat_lt threshold size then Some (sign_of negative) else Some Quiet

-- a line that is on, 1, is shown as plus, and one that is off, 0, as quiet; one trillion parts are 1
abbrev pub logic_by : Option ℕ → Option Sample
logic_by None = None
logic_by (Some size) = if size == 0 then Some Quiet else if size == 1000000000000 then Some Plus else None

abbrev pub level_in : Columns → Number → Option Sample
level_in columns n = if columns.is_logic then logic_by (size_of n) else volts_by columns.threshold n.is_negative (size_of n)

-- the level of a column after a field: the field's, where it is in this column
abbrev pub level_at : ℕ → Option Sample → RowReader → Option Sample
level_at column before r = if r.column == column then level_in r.columns r.number else before

-- the time of a row after a field: the first column's, where rows say their times
abbrev pub time_at : RowReader → Option ℕ
time_at r = if not (r.columns.step == 0) then r.fields.time else if r.column == 1 then time_of r.number else r.fields.time

abbrev pub with_field : RowReader → Fields
with_field r = record {
  time = time_at r;
  a_plus = level_at r.columns.a_plus r.fields.a_plus r;
  a_minus = level_at r.columns.a_minus r.fields.a_minus r;
  b_plus = level_at r.columns.b_plus r.fields.b_plus r;
  b_minus = level_at r.columns.b_minus r.fields.b_minus r;
}

-- ---- rows

-- a column that is wanted has a level: those with number 0 are not
abbrev pub has_level : ℕ → Option Sample → Bool
has_level column level = (column == 0) || is_some level

abbrev pub has_time : Columns → Option ℕ → Bool
has_time columns time = not (columns.step == 0) || is_some time

-- whether the fields of a row are the numbers that are wanted
abbrev pub is_row : Columns → Fields → Bool
is_row c f =
    has_time c f.time && (has_level c.a_plus f.a_plus && (has_level c.a_minus f.a_minus && (has_level c.b_plus f.b_plus && has_level c.b_minus f.b_minus)))

abbrev pub is_plus : Option Sample → Bool
is_plus (Some Plus) = true
is_plus _ = false

abbrev pub sample_by : Option Sample → Sample
sample_by None = Quiet
sample_by (Some x) = x

-- what the channels show in a row
abbrev pub pair_in : Columns → Fields → Pair
pair_in c f =
    if c.is_logic then record { a = level_of (is_plus f.a_plus) (is_plus f.a_minus); b = level_of (is_plus f.b_plus) (is_plus f.b_minus) }
    else record { a = sample_by f.a_plus; b = sample_by f.b_plus }

-- the time of a row after the first: a step after the row before, or what its first column says, counted from the first row's
abbrev pub said_or : ℕ → Option ℕ → ℕ
said_or other None = other
said_or other (Some time) = time

abbrev pub said : RowReader → ℕ
said r = said_or r.first r.fields.time

abbrev pub is_stepped : RowReader → Bool
is_stepped r = not (r.columns.step == 0)

abbrev pub next_time : RowReader → ℕ
next_time r = if is_stepped r then capped (r.time + r.columns.step) else said r - r.first

-- whether it is before the row before
abbrev pub goes_back : RowReader → Bool
goes_back r = not (is_stepped r) && nat_lt (said r) (capped (r.first + r.time))

abbrev pub refused : RecordingRefusal → RowReader → RowReader
refused refusal r = record r { rows = Refused refusal }

-- the first row is at time 0
abbrev pub first_row : RowReader → RowReader
first_row r = if is_row r.columns r.fields then record r { rows = Within; first = said r } else r

abbrev pub next_row : RowReader → RowReader
next_row r =
    if goes_back r then refused (refusals.Time r.start) r
    else if nat_lt greatest (next_time r) then refused (refusals.Long r.at) r
    else record r { time = next_time r }

abbrev pub later_row : RowReader → RowReader
later_row r = if is_row r.columns r.fields then next_row r else record r { rows = Over }

abbrev pub row_in : Rows → RowReader → RowReader
row_in Before r = first_row r
row_in Within r = later_row r
row_in Over r = r
row_in (Refused refusal) r = r

-- the moment that a row is
abbrev pub moment_at : ℕ → RowReader → Moment
moment_at at r = record { at = at; pair = pair_in r.columns r.fields }

abbrev pub first_moment : RowReader → Option Moment
first_moment r = if is_row r.columns r.fields then Some (moment_at 0 r) else None

abbrev pub next_moment : RowReader → Option Moment
next_moment r =
    if goes_back r then None
    else if nat_lt greatest (next_time r) then None
    else Some (moment_at (next_time r) r)

abbrev pub later_moment : RowReader → Option Moment
later_moment r = if is_row r.columns r.fields then next_moment r else None

abbrev pub moment_in : Rows → RowReader → Option Moment
moment_in Before r = first_moment r
moment_in Within r = later_moment r
moment_in Over r = None
moment_in (Refused refusal) r = None

-- ---- bytes

abbrev pub parts_fields : ℕ → Bool
parts_fields byte = (byte == 44) || (byte == 59) || (byte == 9)

-- a field ends
abbrev pub field_ended : RowReader → RowReader
field_ended r = record r { fields = with_field r; number = no_number; column = if nat_lt r.column 4294967295 then r.column + 1 else r.column }

-- the next row begins after this byte
abbrev pub row_begun : ℕ → RowReader → RowReader
row_begun at r = record r { fields = no_fields; column = 1; start = at + 1 }

abbrev pub row_ended : RowReader → RowReader
row_ended r = row_begun r.at (row_in r.rows r)

abbrev pub with_byte : ℕ → RowReader → RowReader
with_byte byte r = record r { number = number_after byte r.number }

abbrev pub byte_taken : ℕ → RowReader → RowReader
byte_taken byte r =
    if byte == 10 then row_ended (field_ended r)
    else if parts_fields byte then field_ended r
    else with_byte byte r

abbrev pub moment_taken : ℕ → RowReader → Option Moment
moment_taken byte r = if byte == 10 then moment_in r.rows (field_ended r) else None

abbrev pub is_refused : Rows → Bool
is_refused (Refused refusal) = true
is_refused _ = false

abbrev pub counted : ℕ → RowReader → RowReader
counted at r = record r { at = at + 1 }

-- the reader after one byte more, and the moment that it ends
abbrev pub after_byte : ℕ → RowReader → RowReader
after_byte byte r =
    if is_refused r.rows then r
    else if nat_le text_limit r.at then refused (refusals.Long r.at) r
    else counted r.at (byte_taken byte r)

abbrev pub moment_after : ℕ → RowReader → Option Moment
moment_after byte r =
    if is_refused r.rows then None
    else if nat_le text_limit r.at then None
    else moment_taken byte r

-- what is told of it: the moment, or the first refusal, and that again ever after
abbrev pub answer_of : Rows → Option Moment → Result (Option Moment) RecordingRefusal
answer_of (Refused refusal) moment = Err refusal
answer_of _ moment = Ok moment

-- ---- the end: the last row needs no line feed, and lasts a step

abbrev pub after_end : RowReader → RowReader
after_end r = row_in r.rows (field_ended r)

abbrev pub last_moment : RowReader → Option Moment
last_moment r = moment_in r.rows (field_ended r)

abbrev pub end_time : RowReader → ℕ
end_time r = capped (r.time + r.columns.step)
