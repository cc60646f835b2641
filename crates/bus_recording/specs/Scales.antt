-- The unit of time of a value change dump: 1, 10 or 100 of s, ms, us, ns or ps.
use Rattle.std.specs.Prelude.{ℕ, ◌+◌, ◌==◌, List, [], ◌∷◌, ◌++◌, length, codes, bytes_eq, nat_le, if◌then◌else◌}

-- the picoseconds of a unit from a millisecond on
abbrev pub long_unit : List ℕ → ℕ
long_unit text =
    if bytes_eq text (codes "1ms") then 1000000000
    else if bytes_eq text (codes "10ms") then 10000000000
    else if bytes_eq text (codes "100ms") then 100000000000
    else if bytes_eq text (codes "1s") then 1000000000000
    else if bytes_eq text (codes "10s") then 10000000000000
    else if bytes_eq text (codes "100s") then 100000000000000
    else 0

-- the picoseconds of a unit up to 100 ns
abbrev pub short_unit : List ℕ → ℕ
short_unit text =
    if bytes_eq text (codes "1ps") then 1
    else if bytes_eq text (codes "10ps") then 10
    else if bytes_eq text (codes "100ps") then 100
    else if bytes_eq text (codes "1ns") then 1000
    else if bytes_eq text (codes "10ns") then 10000
    else if bytes_eq text (codes "100ns") then 100000
    else 0

-- the picoseconds of a unit from a microsecond on
abbrev pub middle_unit : List ℕ → ℕ
middle_unit text =
    if bytes_eq text (codes "1us") then 1000000
    else if bytes_eq text (codes "10us") then 10000000
    else if bytes_eq text (codes "100us") then 100000000
    else long_unit text

-- the picoseconds of a unit that is written without white space; 0 for any other text
abbrev pub either_unit : ℕ → List ℕ → ℕ
either_unit unit text = if unit == 0 then middle_unit text else unit

abbrev pub unit_of : List ℕ → ℕ
unit_of text = either_unit (short_unit text) text

-- the tokens of a unit, joined; more than eight bytes are no unit
abbrev pub joined : List ℕ → List ℕ → List ℕ
joined text more = if nat_le (length text + length more) 8 then text ++ more else codes "?"
