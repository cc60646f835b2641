-- The texts of places.
use Rattle.std.specs.Prelude.{ℕ, ◌+◌, Bool, ◌==◌, nat_le, ◌&&◌, ◌||◌, if◌then◌else◌, List, ◌++◌, length, codes, decimal, Option, Some, None}
use Rattle.std.specs.List.{list_all}

-- the text with more added, where it fits in 128 bytes
abbrev pub join : List ℕ → List ℕ → List ℕ
join text more = if nat_le (length text + length more) 128 then text ++ more else text

-- the text with a number added
abbrev pub at_number : List ℕ → ℕ → List ℕ
at_number text n = join text (decimal n)

-- letters, digits, `-` and `_`
abbrev pub is_plain : ℕ → Bool
is_plain b =
    (nat_le 97 b && nat_le b 122) || (nat_le 65 b && nat_le b 90) || (nat_le 48 b && nat_le b 57) || (b == 45) || (b == 95)

-- a key as it is written in a place
abbrev pub shown : List ℕ → List ℕ
shown key = if nat_le 1 (length key) && nat_le (length key) 32 && list_all is_plain key then key else codes "?"

-- the first place, where there is one, and else the other
abbrev pub or_place : Option (List ℕ) → Option (List ℕ) → Option (List ℕ)
or_place (Some place) other = Some place
or_place None other = other
