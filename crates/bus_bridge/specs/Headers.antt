-- The line before the plans of two buses: the terminals, the bytes of the first plan, and which subaddresses belong together (the project's own).
use Rattle.std.specs.Prelude.{ℕ, zero, suc, ◌+◌, Bool, true, not, ◌==◌, ◌&&◌, nat_lt, if◌then◌else◌, List, [], ◌∷◌, length, take, drop, position, codes, bytes_eq, Option, Some, None}
use Rattle.std.specs.List.{list_any}
use Rattle.bus_decimal.specs.Decimal.{number_up_to}
use Rattle.bus_bridge.specs.declared.header.Header.{Header}
use Rattle.bus_bridge.specs.declared.pairings.Pairing.{Pairing}

-- the place of the first such byte
abbrev pub place_of : ℕ → List ℕ → Option ℕ
place_of byte text = position (λ other. other == byte) text

-- ---- pairings

abbrev pub pairing_of : ℕ → ℕ → Option Pairing
pairing_of from to = if nat_lt 0 from && nat_lt 0 to then Some record { from = from; to = to } else None

abbrev pub pairing_with : Option ℕ → Option ℕ → Option Pairing
pairing_with (Some from) (Some to) = pairing_of from to
pairing_with _ _ = None

-- a subaddress 1 to 30 before this place, one of 1 to 29 after it
abbrev pub pairing_by : List ℕ → Option ℕ → Option Pairing
pairing_by text None = None
pairing_by text (Some place) = pairing_with (number_up_to 30 (take place text)) (number_up_to 29 (drop (place + 1) text))

-- `<from>:<to>`
abbrev pub pairing_in : List ℕ → Option Pairing
pairing_in text = pairing_by text (place_of 58 text)

abbrev pub alone : Option Pairing → Option (List Pairing)
alone None = None
alone (Some pairing) = Some (pairing ∷ [])

abbrev pub led_by : Option Pairing → Option (List Pairing) → Option (List Pairing)
led_by (Some first) (Some rest) = Some (first ∷ rest)
led_by _ _ = None

-- one pairing, or one before this place and others after it
abbrev pub pairings_by : List ℕ → Option ℕ → (List ℕ → Option (List Pairing)) → Option (List Pairing)
pairings_by text None others = alone (pairing_in text)
pairings_by text (Some place) others = led_by (pairing_in (take place text)) (others (drop (place + 1) text))

-- from 1 to so many pairings, with a space between
unfoldable pub pairings_in : ℕ → List ℕ → Option (List Pairing)
pairings_in zero text = None
pairings_in (suc most) text = pairings_by text (place_of 32 text) (pairings_in most)

-- one of them sends from this subaddress
abbrev pub sends_from : ℕ → List Pairing → Bool
sends_from to pairs = list_any (λ p. p.to == to) pairs

-- each sends from another subaddress
abbrev pub are_apart : List Pairing → Bool
are_apart [] = true
are_apart (first ∷ rest) = not (sends_from first.to rest) && are_apart rest

-- ---- the line

-- the most bytes of a plan's text
abbrev pub plan_limit : ℕ
plan_limit = 4194304

abbrev pub header_apart : ℕ → ℕ → ℕ → List Pairing → Option Header
header_apart a b first pairs = if are_apart pairs then Some record { a = a; b = b; first = first; pairs = pairs } else None

abbrev pub header_numbers : ℕ → ℕ → Option ℕ → Option (List Pairing) → Option Header
header_numbers a b (Some first) (Some pairs) = header_apart a b first pairs
header_numbers a b _ _ = None

abbrev pub header_with : Option ℕ → Option ℕ → Option ℕ → Option (List Pairing) → Option Header
header_with (Some a) (Some b) first pairs = header_numbers a b first pairs
header_with _ _ _ _ = None

-- the bytes of the first plan before this place, 1 to 29 pairings after it
abbrev pub header_between_by : Option ℕ → Option ℕ → List ℕ → Option ℕ → Option Header
header_between_by a b text None = None
header_between_by a b text (Some place) = header_with a b (number_up_to plan_limit (take place text)) (pairings_in 29 (drop (place + 1) text))

abbrev pub header_between : Option ℕ → Option ℕ → List ℕ → Option Header
header_between a b text = header_between_by a b text (place_of 32 text)

-- an address before this place
abbrev pub header_from_by : Option ℕ → List ℕ → Option ℕ → Option Header
header_from_by a text None = None
header_from_by a text (Some place) = header_between a (number_up_to 30 (take place text)) (drop (place + 1) text)

abbrev pub header_from : Option ℕ → List ℕ → Option Header
header_from a text = header_from_by a text (place_of 32 text)

abbrev pub header_in_by : List ℕ → Option ℕ → Option Header
header_in_by text None = None
header_in_by text (Some place) = header_from (number_up_to 30 (take place text)) (drop (place + 1) text)

-- `<a> <b> <bytes> <from>:<to> ..`, with single spaces
abbrev pub header_in : List ℕ → Option Header
header_in text = header_in_by text (place_of 32 text)

abbrev pub beginning : List ℕ
beginning = codes "1553 bridge "

abbrev pub begins_so : List ℕ → Bool
begins_so line = bytes_eq beginning (take (length beginning) line)

-- `1553 bridge <a> <b> <bytes> <from>:<to> ..`; the beginning has 12 bytes
abbrev pub header_of : List ℕ → Option Header
header_of line = if begins_so line then header_in (drop 12 line) else None
