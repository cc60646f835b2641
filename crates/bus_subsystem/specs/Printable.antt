-- Printable characters of ASCII: space to tilde.
use Rattle.std.specs.Prelude.{◌≡◌, ℕ, Bool, true, ◌&&◌, nat_le, List}
use Rattle.std.specs.List.{list_all}

abbrev pub is_printable_byte : ℕ → Bool
is_printable_byte byte = nat_le 32 byte && nat_le byte 126

abbrev pub IsPrintable : List ℕ → Type 0
IsPrintable bytes = list_all is_printable_byte bytes ≡ true
