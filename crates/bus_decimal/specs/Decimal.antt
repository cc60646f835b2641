-- Numbers in decimal digits (the project's own).
use Rattle.std.specs.Prelude.{ℕ, ◌+◌, ◌*◌, ◌-◌, Bool, false, not, ◌&&◌, ◌==◌, nat_le, if◌then◌else◌, List, [], ◌∷◌, Option, Some, None}
use Rattle.std.specs.List.{list_all}

-- the byte is one of 0 to 9
abbrev pub is_digit : ℕ → Bool
is_digit byte = nat_le 48 byte && nat_le byte 57

abbrev pub are_digits : List ℕ → Bool
are_digits text = list_all is_digit text

-- digits, the first of which is no 0 unless it stands alone
abbrev pub is_decimal : List ℕ → Bool
is_decimal [] = false
is_decimal (only ∷ []) = is_digit only
is_decimal (first ∷ second ∷ more) = not (first == 48) && are_digits (first ∷ second ∷ more)

-- what digits say after a number
abbrev pub value_after : ℕ → List ℕ → ℕ
value_after value [] = value
value_after value (digit ∷ digits) = value_after (10 * value + (digit - 48)) digits

abbrev pub value_of : List ℕ → ℕ
value_of digits = value_after 0 digits

-- a number, if it isn't above the greatest one
abbrev pub at_most : ℕ → ℕ → Option ℕ
at_most most value = if nat_le value most then Some value else None

-- the number that a text spells, if it spells one and that isn't above the greatest one
abbrev pub number_up_to : ℕ → List ℕ → Option ℕ
number_up_to most text = if is_decimal text then at_most most (value_of text) else None
