-- What is read from the document of a plan.
use Rattle.std.specs.Prelude.{ℕ, pos, Bool, false, ◌&&◌, nat_le, if◌then◌else◌, List, Option, Some, None, bytes_eq}
use Rattle.std.specs.Str.{is_utf8}
use Rattle.toml.specs.Data.{Data, string, integer, boolean, array, Items, Members}
use Rattle.toml.specs.Parse.{parse_document}
use Rattle.bus_plan.specs.declared.ranges.Range.{Range}

-- the document of the bytes, where they are UTF-8 and a TOML text
abbrev pub document_of : List ℕ → Option Members
document_of bytes = if is_utf8 bytes then parse_document bytes else None

-- whether a number lies in a range
abbrev pub lies_in : Range → ℕ → Bool
lies_in range n = nat_le range.low n && nat_le n range.high

-- the number, where it lies in the range
abbrev pub number_within : Range → Option Data → Option ℕ
number_within range (Some (integer (pos n))) = if lies_in range n then Some n else None
number_within range _ = None

abbrev pub number_or : ℕ → Option ℕ → ℕ
number_or other (Some n) = n
number_or other None = other

-- the same, and else another number
abbrev pub number_in : Range → ℕ → Option Data → ℕ
number_in range other value = number_or other (number_within range value)

abbrev pub is_text : List ℕ → Option Data → Bool
is_text text (Some (string s)) = bytes_eq s text
is_text text _ = false

abbrev pub flag_of : Option Data → Bool
flag_of (Some (boolean b)) = b
flag_of _ = false

-- the members of an array
abbrev pub list_of : Option Data → Option Items
list_of (Some (array ds)) = Some ds
list_of _ = None
