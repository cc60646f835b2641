-- The tokens of a value change dump: its bytes between white space. Lines mean nothing.
use Rattle.std.specs.Prelude.{ℕ, ◌==◌, ◌||◌, ◌&&◌, not, nat_lt, nat_le, Bool, true, false, if◌then◌else◌, List, [], ◌∷◌, ◌++◌, length, drop, bytes_eq}
use Rattle.arrayvec.specs.ArrayVec.{ArrayVec}
use Rattle.bus_recording.specs.declared.token.Token.{Token}

-- a space, a tab, or one of the bytes that end lines and pages
abbrev pub is_white : ℕ → Bool
is_white byte = (byte == 32) || (nat_le 9 byte && nat_le byte 13)

abbrev pub bytes_of : Token → List ℕ
bytes_of token = token.bytes.items

abbrev pub no_bytes : ArrayVec ℕ
no_bytes = record { items = [] }

-- a token that isn't begun
abbrev pub no_token : Token
no_token = record { bytes = no_bytes; is_long = false; start = 0 }

abbrev pub is_begun : Token → Bool
is_begun token = not (length (bytes_of token) == 0)

-- one byte more, at an offset; 64 bytes are kept
abbrev pub with_byte : ℕ → ℕ → Token → Token
with_byte at byte token =
    if nat_lt (length (bytes_of token)) 64
    then record {
      bytes = record { items = bytes_of token ++ byte ∷ [] };
      is_long = token.is_long;
      start = if is_begun token then token.start else at;
    }
    else record token { is_long = true }

-- whether a token is this word
abbrev pub is_word : List ℕ → Token → Bool
is_word word token = not token.is_long && bytes_eq (bytes_of token) word

-- its first byte, 0 where it has none
abbrev pub front : List ℕ → ℕ
front [] = 0
front (byte ∷ bytes) = byte

-- what follows its first byte
abbrev pub rest_of : Token → List ℕ
rest_of token = drop 1 (bytes_of token)
