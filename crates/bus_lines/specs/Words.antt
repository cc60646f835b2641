-- What the words of the command line mean: how the recording is written, and which of its lines or columns are the channels.
use Rattle.std.specs.Prelude.{ℕ, ◌*◌, ◌==◌, ◌||◌, nat_lt, if◌then◌else◌, Bool, true, false, List, [], ◌∷◌, length, codes, bytes_eq, Option, Some, None}
use Rattle.bus_decimal.specs.Decimal.{number_up_to}
use Rattle.bus_recording.specs.Vcd as vcd
use Rattle.bus_recording.specs.Rows as rows_of
use Rattle.bus_recording.specs.Wires.{wire_named}
use Rattle.bus_recording.specs.declared.wires.Wire.{Wire}
use Rattle.bus_lines.specs.declared.reader.RecordingReader.{RecordingReader}
use Rattle.bus_lines.specs.declared.reader.RecordingReader.TheVariants.{Vcd, Rows}

-- a name has 1 to 64 bytes
abbrev pub wire_of : List ℕ → Option Wire
wire_of name = if (length name == 0) || nat_lt 64 (length name) then None else Some (wire_named name true)

-- a number from 1 on, up to the greatest
abbrev pub not_zero : Option ℕ → Option ℕ
not_zero None = None
not_zero (Some number) = if number == 0 then None else Some number

abbrev pub positive : ℕ → List ℕ → Option ℕ
positive most word = not_zero (number_up_to most word)

-- the picoseconds from row to row, or 0 for `time`: each row says its time
abbrev pub clock : List ℕ → Option ℕ
clock word = if bytes_eq word (codes "time") then Some 0 else positive 576460752303423488 word

abbrev pub column : List ℕ → Option ℕ
column word = positive 4294967295 word

-- millivolts, as picovolts
abbrev pub picovolts : Option ℕ → Option ℕ
picovolts None = None
picovolts (Some millivolts) = Some (millivolts * 1000000000)

abbrev pub threshold : List ℕ → Option ℕ
threshold word = picovolts (number_up_to 576460752 word)

-- a dump whose four lines are known
abbrev pub dump : Option Wire → Option Wire → Option Wire → Option Wire → Option RecordingReader
dump (Some p) (Some n) (Some q) (Some m) = Some (Vcd (vcd.reader_of (record { a_plus = p; a_minus = n; b_plus = q; b_minus = m })))
dump _ _ _ _ = None

-- rows whose columns are known
abbrev pub rows : Bool → Option ℕ → Option ℕ → Option ℕ → Option ℕ → Option ℕ → Option ℕ → Option RecordingReader
rows logic (Some step) (Some limit) (Some p) (Some n) (Some q) (Some m) =
    Some (Rows (rows_of.reader_of (record { is_logic = logic; step = step; threshold = limit; a_plus = p; a_minus = n; b_plus = q; b_minus = m })))
rows _ _ _ _ _ _ _ = None

abbrev pub unwanted : Option Wire
unwanted = Some (wire_named [] false)

abbrev pub short : List ℕ → List ℕ → List ℕ → Option RecordingReader
short kind first second = if bytes_eq kind (codes "vcd") then dump (wire_of first) (wire_of second) unwanted unwanted else None

abbrev pub middle : List ℕ → List ℕ → List ℕ → List ℕ → Option RecordingReader
middle kind first second third =
    if bytes_eq kind (codes "logic") then rows true (clock first) (Some 0) (column second) (column third) (Some 0) (Some 0)
    else if bytes_eq kind (codes "volts") then rows false (clock first) (threshold second) (column third) (Some 0) (Some 0) (Some 0)
    else None

abbrev pub long : List ℕ → List ℕ → List ℕ → List ℕ → List ℕ → Option RecordingReader
long kind first second third fourth =
    if bytes_eq kind (codes "vcd") then dump (wire_of first) (wire_of second) (wire_of third) (wire_of fourth)
    else if bytes_eq kind (codes "volts") then rows false (clock first) (threshold second) (column third) (Some 0) (column fourth) (Some 0)
    else None

abbrev pub longest : List ℕ → List ℕ → List ℕ → List ℕ → List ℕ → List ℕ → Option RecordingReader
longest kind first second third fourth fifth =
    if bytes_eq kind (codes "logic") then rows true (clock first) (Some 0) (column second) (column third) (column fourth) (column fifth) else None

abbrev pub with_rest : List ℕ → List ℕ → List ℕ → List (List ℕ) → Option RecordingReader
with_rest kind first second [] = short kind first second
with_rest kind first second (third ∷ []) = middle kind first second third
with_rest kind first second (third ∷ fourth ∷ []) = long kind first second third fourth
with_rest kind first second (third ∷ fourth ∷ fifth ∷ []) = longest kind first second third fourth fifth
with_rest kind first second _ = None

abbrev pub meaning : List (List ℕ) → Option RecordingReader
meaning (kind ∷ first ∷ second ∷ rest) = with_rest kind first second rest
meaning _ = None
