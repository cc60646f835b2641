-- Decimal numbers in rows: `[+-]digits[.digits][e[+-]digits]`, with spaces around them. A number is kept as its digits, and how many of them stand after
-- the point; its value is said in parts of 10^-12, so that seconds are picoseconds.
use Rattle.std.specs.Prelude.{ℕ, zero, suc, ◌+◌, ◌-◌, ◌*◌, ◌/◌, ◌==◌, ◌&&◌, ◌||◌, nat_le, nat_lt, Bool, true, false, if◌then◌else◌, Option, Some, None}
use Rattle.bus_recording.specs.declared.number.Number.{Number}
use Rattle.bus_recording.specs.declared.number.NumberPlace.{NumberPlace}
use Rattle.bus_recording.specs.declared.number.NumberPlace.TheVariants.{Start, Signed, Whole, Point, Fraction, Mark, MarkSigned, Exponent, After, Wrong}

-- the most that a number's digits say, and its value: 2^59
abbrev pub greatest : ℕ
greatest = 576460752303423488

-- the most digits after the point, and the greatest exponent
abbrev pub most_places : ℕ
most_places = 99

abbrev pub no_number : Number
no_number = record { place = Start; is_negative = false; digits = 0; places = 0; is_small = false; exponent = 0 }

abbrev pub is_digit : ℕ → Bool
is_digit byte = nat_le 48 byte && nat_le byte 57

abbrev pub is_space : ℕ → Bool
is_space byte = (byte == 32) || (byte == 13)

abbrev pub is_mark : ℕ → Bool
is_mark byte = (byte == 69) || (byte == 101)

abbrev pub at_place : NumberPlace → Number → Number
at_place place n = record n { place = place }

-- one digit more, before the point and after it
abbrev pub with_digit : NumberPlace → ℕ → Number → Number
with_digit place byte n =
    if nat_le (10 * n.digits + (byte - 48)) greatest
    then record n { place = place; digits = 10 * n.digits + (byte - 48) }
    else at_place Wrong n

abbrev pub with_place : ℕ → Number → Number
with_place byte n = if nat_lt n.places most_places then with_digit Fraction byte (record n { places = n.places + 1 }) else at_place Wrong n

-- one digit more of the exponent
abbrev pub with_exponent : ℕ → Number → Number
with_exponent byte n =
    if nat_le (10 * n.exponent + (byte - 48)) most_places
    then record n { place = Exponent; exponent = 10 * n.exponent + (byte - 48) }
    else at_place Wrong n

-- ---- one byte more, in each place

abbrev pub in_start : ℕ → Number → Number
in_start byte n =
    if is_space byte then n
    else if is_digit byte then with_digit Whole byte n
    else if byte == 43 then at_place Signed n
    else if byte == 45 then record n { place = Signed; is_negative = true }
    else at_place Wrong n

abbrev pub in_signed : ℕ → Number → Number
in_signed byte n = if is_digit byte then with_digit Whole byte n else at_place Wrong n

abbrev pub after_digits : ℕ → Number → Number
after_digits byte n =
    if is_mark byte then at_place Mark n
    else if is_space byte then at_place After n
    else at_place Wrong n

abbrev pub in_whole : ℕ → Number → Number
in_whole byte n =
    if is_digit byte then with_digit Whole byte n
    else if byte == 46 then at_place Point n
    else after_digits byte n

abbrev pub in_point : ℕ → Number → Number
in_point byte n = if is_digit byte then with_place byte n else at_place Wrong n

abbrev pub in_fraction : ℕ → Number → Number
in_fraction byte n = if is_digit byte then with_place byte n else after_digits byte n

abbrev pub in_mark : ℕ → Number → Number
in_mark byte n =
    if is_digit byte then with_exponent byte n
    else if byte == 43 then at_place MarkSigned n
    else if byte == 45 then record n { place = MarkSigned; is_small = true }
    else at_place Wrong n

abbrev pub in_mark_signed : ℕ → Number → Number
in_mark_signed byte n = if is_digit byte then with_exponent byte n else at_place Wrong n

abbrev pub in_exponent : ℕ → Number → Number
in_exponent byte n =
    if is_digit byte then with_exponent byte n
    else if is_space byte then at_place After n
    else at_place Wrong n

abbrev pub in_after : ℕ → Number → Number
in_after byte n = if is_space byte then n else at_place Wrong n

abbrev pub in_place : NumberPlace → ℕ → Number → Number
in_place Start byte n = in_start byte n
in_place Signed byte n = in_signed byte n
in_place Whole byte n = in_whole byte n
in_place Point byte n = in_point byte n
in_place Fraction byte n = in_fraction byte n
in_place Mark byte n = in_mark byte n
in_place MarkSigned byte n = in_mark_signed byte n
in_place Exponent byte n = in_exponent byte n
in_place After byte n = in_after byte n
in_place Wrong byte n = n

abbrev pub number_after : ℕ → Number → Number
number_after byte n = in_place n.place byte n

-- ---- what it says

-- whether the bytes so far are a number
abbrev pub is_whole : NumberPlace → Bool
is_whole Whole = true
is_whole Fraction = true
is_whole Exponent = true
is_whole After = true
is_whole _ = false

-- ten times a value, so often, and the whole tenth of it
abbrev pub tenfold : ℕ → ℕ → ℕ
tenfold zero value = value
tenfold (suc n) value = tenfold n (10 * value)

abbrev pub tenth : ℕ → ℕ → ℕ
tenth zero value = value
tenth (suc n) value = tenth n (value / 10)

-- the powers of ten by which digits are multiplied and divided, for parts of 10^-12
abbrev pub up : Number → ℕ
up n = if n.is_small then 12 else 12 + n.exponent

abbrev pub down : Number → ℕ
down n = if n.is_small then n.places + n.exponent else n.places

abbrev pub shifted : ℕ → ℕ → ℕ → ℕ
shifted high low digits = if nat_le low high then tenfold (high - low) digits else tenth (low - high) digits

-- its distance from 0 in parts of 10^-12, none where that is past 2^59 or it is no number
abbrev pub up_to_greatest : ℕ → Option ℕ
up_to_greatest value = if nat_le value greatest then Some value else None

abbrev pub size_of : Number → Option ℕ
size_of n = if is_whole n.place then up_to_greatest (shifted (up n) (down n) n.digits) else None
